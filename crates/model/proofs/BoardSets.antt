-- A board is made of the sets that it was asked for. Assumes nothing.
use Rattle.std.proofs.Common.{◌≡◌, ℕ, Bool, List, Ok, refl, arith}
use Rattle.std.proofs.lemmas.Grind.{common_steps}
use Rattle.board.specs.Ballots.{is_board, is_group}
use Rattle.board.specs.Boards.{board_decided, board_of}
use Rattle.board.specs.declared.board.Board.{Board}

pub record MadeOf (n present : ℕ) (voters : List ℕ) (board : Board) : Type 0 where
  pub n_is : board.n ≡ n
  pub present_is : board.present ≡ present
  pub voters_are : board.voters ≡ voters

made_decided :
    (n present : ℕ) (voters : List ℕ) (group holds : Bool)
    (g : is_group n ≡ group) (h : is_board n present voters ≡ holds) (board : Board)
    → board_decided n present voters group holds g h ≡ Ok board → MadeOf n present voters board
made_decided = grind (arith, common_steps)

pub made_of :
    (n present : ℕ) (voters : List ℕ) (board : Board) → board_of n present voters ≡ Ok board
    → MadeOf n present voters board
made_of n present voters board e =
    made_decided n present voters (is_group n) (is_board n present voters) refl refl board e
