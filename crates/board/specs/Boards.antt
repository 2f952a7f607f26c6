-- The words in which rules speak of a board, and when a board extends another. Assumes nothing.
use Rattle.std.specs.Prelude.{◌≡◌, ℕ, Bool, true, false, not, ◌&&◌, List, Ok, Err, Result, Decides, ◌==◌, nat_lt, refl}
use Rattle.std.specs.Ordering.{eq_of_both, on}
use Rattle.std.specs.Cmp.Lexicographic.{pointwise}
use Rattle.wire.specs.declared.fault.Fault.{Fault}
use Rattle.wire.specs.declared.fault.Fault.TheVariants.{Setting, NoBoard}
use Rattle.board.specs.Sets.{has, number_of}
use Rattle.board.specs.Ballots.{is_group, is_board, votes_for, has_candidate}
use Rattle.board.specs.declared.board.Board.{Board}

-- The board of a caller's sets: 12 for an n that no group has, then 13 for sets that are no board.

-- decided by the two tests, which the board then holds
abbrev pub board_decided :
    (n present : ℕ) (voters : List ℕ) (group holds : Bool)
    → is_group n ≡ group → is_board n present voters ≡ holds → Result Board Fault
board_decided n present voters true true g h =
    Ok (record { n = n; present = present; voters = voters; group = g; holds = h })
board_decided n present voters true false g h = Err NoBoard
board_decided n present voters false holds g h = Err Setting

abbrev pub board_of : ℕ → ℕ → List ℕ → Result Board Fault
board_of n present voters =
    board_decided n present voters (is_group n) (is_board n present voters) refl refl

-- the station at a place belongs to the group
abbrev pub member : Board → ℕ → Bool
member board place = nat_lt place board.n

-- the station at a place has a head
abbrev pub is_present : Board → ℕ → Bool
is_present board place = has board.present place

-- the station at a place belongs to the group and has no head
abbrev pub is_absent : Board → ℕ → Bool
is_absent board place = member board place && not (is_present board place)

-- u: how many stations are absent
abbrev pub absent : Board → ℕ
absent board = number_of (is_absent board)

-- nobody is absent
abbrev pub all_present : Board → Bool
all_present board = absent board == 0

-- the station at a place has a candidate
abbrev pub candidate : Board → ℕ → Bool
candidate board place = has_candidate board.voters place

-- the first station votes for the candidate of the second
abbrev pub votes_at : Board → ℕ → ℕ → Bool
votes_at board voter place = has (votes_for board.voters place) voter

-- how many stations vote for the candidate at a place
abbrev pub voters_at : Board → ℕ → ℕ
voters_at board place = number_of (λ voter. votes_at board voter place)

-- the lead of one candidate over another: how many stations vote for the first and not for the second
abbrev pub lead : Board → ℕ → ℕ → ℕ
lead board first second = number_of (λ voter. votes_at board voter first && not (votes_at board voter second))

-- both boards have one n, one present set and the same voters at each place
abbrev pub is_same_board : Board → Board → Bool
is_same_board =
    eq_of_both (on (λ board. board.n) ◌==◌)
    (eq_of_both (on (λ board. board.present) ◌==◌) (on (λ board. board.voters) (pointwise ◌==◌)))

-- comparing two boards decides whether they are the same board
abbrev pub ComparingDecides : Type 0
ComparingDecides = (board other : Board) → Decides (is_same_board board other) (board ≡ other)

-- a station that is present on the second board and not on the first
abbrev pub newly_present : Board → Board → ℕ → Bool
newly_present board wider place = not (is_present board place) && is_present wider place

-- the second board extends the first: the same n, no present station is lost, and each station's voters
-- differ only by newly present ones
pub record Extends (board wider : Board) : Type 0 where
  pub same_group : wider.n ≡ board.n
  pub none_lost : (place : ℕ) → is_present board place ≡ true → is_present wider place ≡ true
  pub same_votes :
      (voter place : ℕ) → newly_present board wider voter ≡ false
      → votes_at wider voter place ≡ votes_at board voter place
