-- The words in which the format is stated: bytes by place, numbers with the lowest byte first, ranges, sums.
-- Assumes nothing.
use Rattle.std.specs.Prelude.{ℕ, zero, suc, ◌+◌, ◌*◌, ◌/◌, ◌%◌, Bool, ◌&&◌, List, [], ◌∷◌, nat_le, slice_index}
use Rattle.std.specs.List.{list_all}

-- the byte at a place, counted from 0
abbrev pub byte : List ℕ → ℕ → ℕ
byte bytes place = slice_index bytes place

-- the number in two bytes from a place on, the lowest byte first
abbrev pub two_bytes : List ℕ → ℕ → ℕ
two_bytes bytes place = byte bytes place + byte bytes (place + 1) * 256

-- the number in four bytes from a place on, the lowest byte first
abbrev pub four_bytes : List ℕ → ℕ → ℕ
four_bytes bytes place =
    byte bytes place + byte bytes (place + 1) * 256 + byte bytes (place + 2) * 65536
    + byte bytes (place + 3) * 16777216

-- a number as two bytes and as four, the lowest byte first
abbrev pub in_two : ℕ → List ℕ
in_two number = (number % 256) ∷ (number / 256 % 256) ∷ []

abbrev pub in_four : ℕ → List ℕ
in_four number =
    (number % 256) ∷ (number / 256 % 256) ∷ (number / 65536 % 256) ∷ (number / 16777216 % 256) ∷ []

-- every number of the list lies from low to high
abbrev pub all_within : ℕ → ℕ → List ℕ → Bool
all_within low high numbers = list_all (λ number. nat_le low number && nat_le number high) numbers

-- the sum of a term over the places below n
unfoldable pub sum_below : ℕ → (ℕ → ℕ) → ℕ
sum_below zero term = 0
sum_below (suc n) term = sum_below n term + term n
