-- Numbers of two bytes and of four, the lowest byte first. Assumes nothing.
use Rattle.std.proofs.Common.{◌≡◌, ℕ, ◌+◌, ◌*◌, ◌/◌, ◌%◌, ◌^◌, ◌<◌, List, [], ◌∷◌, sym, ap, ◌∙◌, arith, w32, get_or, add-zero}
use Rattle.std.specs.Int.{from_le_bytes}
use Rattle.std.specs.List.{between}
use Rattle.std.proofs.lemmas.List.Edits.{get_or-between}
use Rattle.std.proofs.lemmas.Nat.{div-add-mod', shr-shr}
use Rattle.wire.specs.Words.{byte, four_bytes, in_four}

-- a number as it is read from the part of a block that holds it
pub four_read : (block : List ℕ) (place : ℕ) → from_le_bytes w32 (between place (place + 4) block) ≡ four_bytes block place
four_read block place =
    rw (at 0 (omega arith), at 1 (omega arith), at 2 (omega arith), at 3 (omega arith), add-zero)
  where
    at : (k : ℕ) → k < 4 → get_or (between place (place + 4) block) k 0 ≡ byte block (place + k)
    at k h = get_or-between block place (place + 4) k 0 (omega arith)

-- a number is told by its bytes

pub two_told : (number : ℕ) → number < 65536 → number % 256 + number / 256 % 256 * 256 ≡ number
two_told number small = omega arith

pub four_told :
    (number : ℕ) → number < 2 ^ 32
    → number % 256 + number / 256 % 256 * 256 + number / 65536 % 256 * 65536 + number / 16777216 % 256 * 16777216 ≡ number
four_told number small =
    by_rests number (number / 256) (number / 65536) (number / 16777216) (number % 256) (number / 256 % 256) (number / 65536 % 256)
    (number / 16777216 % 256)
    (div-add-mod' number 256)
    (ap (λ q. q * 256 + number / 256 % 256) (sym (shr-shr number 8 8)) ∙ div-add-mod' (number / 256) 256)
    (ap (λ q. q * 256 + number / 65536 % 256) (sym (shr-shr number 16 8)) ∙ div-add-mod' (number / 65536) 256)
    (the_top number small)
  where
    by_rests :
        (x p q r a b c d : ℕ) → p * 256 + a ≡ x → q * 256 + b ≡ p → r * 256 + c ≡ q → d ≡ r
        → a + b * 256 + c * 65536 + d * 16777216 ≡ x
    by_rests x p q r a b c d e f g h = omega arith

    the_top : (x : ℕ) → x < 2 ^ 32 → x / 16777216 % 256 ≡ x / 16777216
    the_top x h = omega arith

pub in_two-low : (a b : ℕ) → a < 256 → b < 256 → (a + b * 256) % 256 ≡ a
in_two-low a b p q = omega arith

pub in_two-high : (a b : ℕ) → a < 256 → b < 256 → (a + b * 256) / 256 % 256 ≡ b
in_two-high a b p q = omega arith

pub four_again :
    (a b c d : ℕ) → a < 256 → b < 256 → c < 256 → d < 256
    → in_four (a + b * 256 + c * 65536 + d * 16777216) ≡ a ∷ b ∷ c ∷ d ∷ []
four_again a b c d p q r s =
    λ i. first i ∷ second i ∷ third i ∷ fourth i ∷ []
  where
    first : (a + b * 256 + c * 65536 + d * 16777216) % 256 ≡ a
    first = omega arith

    second : (a + b * 256 + c * 65536 + d * 16777216) / 256 % 256 ≡ b
    second = omega arith

    third : (a + b * 256 + c * 65536 + d * 16777216) / 65536 % 256 ≡ c
    third = omega arith

    fourth : (a + b * 256 + c * 65536 + d * 16777216) / 16777216 % 256 ≡ d
    fourth = omega arith
