-- What a release answers. Assumes nothing.
use Rattle.std.proofs.Common.{◌≡◌, ℕ, true, false, List, Ok, Result, sym, subst}
use mathlib.Core.Bool.{Bool-set}
use mathlib.Core.Logic.{∥∥₁_elim}
use Rattle.board.specs.Ballots.{is_board, is_group}
use Rattle.board.specs.Boards.{board_of}
use Rattle.board.specs.Rules.{RuleMeaning}
use Rattle.board.specs.declared.board.Board.{Board}
use Rattle.board.proofs.Made.{board_of_sets}
use Rattle.ties.specs.Ties.{TieMeaning}
use Rattle.model.specs.Calls.{release_of}
use Rattle.model.specs.Heads.{board_at, present_set, voter_sets}
use Rattle.model.specs.Meanings.{ReleaseAnswers}
use Rattle.model.specs.States.{is_shut, known, released}
use Rattle.model.proofs.BoardLaws.{board_holds}
use Rattle.model.proofs.ReleaseAnswers.{release_answers}
use Rattle.wire.specs.declared.fault.Fault.{Fault}
use Rattle.station.specs.Standing.{state_of_station}
use Rattle.station.specs.declared.station.Station.{Station}
use Rattle.station.proofs.Boarded.{group_told}

-- an open station has a board
board-there :
    (station : Station) → is_shut (state_of_station station) ≡ false
    → (board : Board)
    × (board_at station.n (known (state_of_station station)) (released (state_of_station station)) ≡ Ok board)
board-there station live =
    let state = state_of_station station in
    let holds =
    ∥∥₁_elim station.sound (Bool-set (is_board station.n (present_set (known state) (released state)) (voter_sets (known state) (released state))) true)
    (λ sound. board_holds (known state) (released state) station.n sound.kept.orderly) in
    made station.n (present_set (known state) (released state)) (voter_sets (known state) (released state)) (group_told station live) holds
  where
    made :
        (n present : ℕ) (voters : List ℕ) → is_group n ≡ true → is_board n present voters ≡ true
        → (board : Board) × (board_of n present voters ≡ Ok board)
    made n present voters group holds =
        let board : Board = record { n = n; present = present; voters = voters; group = group; holds = holds } in
        (board, board_of_sets board)

-- the answers of release come exactly when they should
pub release_answered :
    (station : Station) (rule : RuleMeaning) (order : TieMeaning) (r : Result ℕ Fault)
    → r ≡ (release_of (state_of_station station) rule order).answer → ReleaseAnswers (state_of_station station) rule order r
release_answered station rule order r told =
    subst (ReleaseAnswers (state_of_station station) rule order) (sym told)
    (release_answers (state_of_station station) rule order (board-there station))
