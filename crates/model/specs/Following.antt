-- What a message follows, and when two messages say the same. Stations count from 1; the station at a place
-- is one above the place. Assumes nothing.
use Rattle.std.specs.Prelude.{◌≡◌, ℕ, zero, suc, ◌≤◌, Bool, true, false, ◌&&◌, List, [], ◌∷◌, ◌==◌, nat_le, nat_lt, slice_index}
use Rattle.board.specs.Sets.{any}
use Rattle.wire.specs.declared.message.Message.{Message}

-- how many messages of a station the message follows
abbrev pub count_of : Message → ℕ → ℕ
count_of message zero = 0
count_of message (suc place) = slice_index message.after place

-- the message follows the one that a station gave this number: those from 1 up to its count for the station
abbrev pub Follows : Message → ℕ → ℕ → Type 0
Follows message station number = (1 ≤ number) × (number ≤ count_of message station)

-- the first message follows the second
abbrev pub follows : Message → Message → Bool
follows message other = nat_le 1 other.number && nat_le other.number (count_of message other.station)

-- some count is larger than the other one at its place
abbrev pub counts_exceed : List ℕ → List ℕ → Bool
counts_exceed counts others = any (λ place. nat_lt (slice_index others place) (slice_index counts place))

-- the first message has a larger count than the second for some station
abbrev pub exceeds : Message → Message → Bool
exceeds message other = counts_exceed message.after other.after

-- two lists of numbers are equal
abbrev pub same_numbers : List ℕ → List ℕ → Bool
same_numbers [] [] = true
same_numbers [] (y ∷ ys) = false
same_numbers (x ∷ xs) [] = false
same_numbers (x ∷ xs) (y ∷ ys) = x == y && same_numbers xs ys

-- two messages are alike: in after-list, class and order bytes
pub record Alike (message other : Message) : Type 0 where
  pub after : message.after ≡ other.after
  pub class : message.class ≡ other.class
  pub order : message.order ≡ other.order

abbrev pub alike : Message → Message → Bool
alike message other =
    same_numbers message.after other.after
    && (message.class == other.class && same_numbers message.order other.order)
