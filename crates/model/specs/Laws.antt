-- The laws of heads, boards and waves. Assumes nothing.
use Rattle.std.specs.Prelude.{◌≡◌, ℕ, ◌<◌, ◌≤◌, true, ◌↔◌, List, is_some, Some, Ok}
use Rattle.board.specs.Ballots.{is_group}
use Rattle.board.specs.Sets.{has}
use Rattle.board.specs.declared.board.Board.{Board}
use Rattle.ties.specs.Ties.{Lawful, TieMeaning}
use Rattle.wire.specs.declared.message.Message.{Message}
use Rattle.model.specs.Accepted.{Accepted, accepted_as}
use Rattle.model.specs.Heads.{Released, board_at, head}
use Rattle.model.specs.Sound.{Orderly, Sound}
use Rattle.model.specs.States.{State, known, on_roll, released}
use Rattle.model.specs.Waves.{HeadsOf, IsWave, wave_of}

-- a message of a station is released when it is on the roll
abbrev pub IsReleased : State → ℕ → ℕ → Type 0
IsReleased state station number = is_some (accepted_as (on_roll state.roll) station number) ≡ true

-- a message is the first accepted message of a station that is not released
pub record FirstUnreleased (state : State) (station : ℕ) (message : Message) : Type 0 where
  pub accepted : known state station message.number ≡ Some message
  pub unreleased : IsReleased state station message.number → ⊥
  pub first :
      (number : ℕ) → is_some (known state station number) ≡ true → (IsReleased state station number → ⊥)
      → message.number ≤ number

-- the head of a station is that message
abbrev pub HeadsAreFirst : Type 0
HeadsAreFirst =
    (state : State) → Sound state → (station : ℕ) (message : Message)
    → (head (known state) (released state) station ≡ Some message) ↔ FirstUnreleased state station message

-- orderly messages give a board, whatever is released
abbrev pub BoardsAreThere : Type 0
BoardsAreThere =
    (n : ℕ) (accepted : Accepted) (released : Released) → is_group n ≡ true → Orderly n accepted
    → (board : Board) × (board_at n accepted released ≡ Ok board)

-- each head is of its station
abbrev pub ByStation : HeadsOf → Type 0
ByStation heads = (station : ℕ) (message : Message) → heads station ≡ Some message → message.station ≡ station

-- sources are stations of a group of n
abbrev pub OfGroup : ℕ → ℕ → Type 0
OfGroup n sources = (place : ℕ) → has sources place ≡ true → place < n

-- in a lawful tie order the computed wave is the wave of the sources' heads, and no other list is
abbrev pub WavesAreOne : Type 0
WavesAreOne =
    (order : TieMeaning) (wave : ℕ) (heads : HeadsOf) (sources : ℕ)
    → Lawful order → order.n ≤ 16 → 1 ≤ wave → ByStation heads → OfGroup order.n sources
    → IsWave order wave heads sources (wave_of order wave heads sources)
    × ((messages : List Message) → IsWave order wave heads sources messages
    → messages ≡ wave_of order wave heads sources)
