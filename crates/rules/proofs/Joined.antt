-- Sets of one station or none, told by a test and joined place after place: the set of those that pass.
-- Assumes nothing.
use Rattle.std.proofs.Common.{◌≡◌, ℕ, zero, suc, ◌+◌, ◌^◌, ◌<◌, ◌≤◌, Bool, true, false, ◌&&◌, ◌||◌, eqb, map, fold, sym, refl, ap, ◌∙◌, ⊎_elim, arith, pow_mono}
use Rattle.std.specs.List.{range_with_len}
use Rattle.std.proofs.Math.Bool.{and-false, and-true, or-false, or_comm}
use Rattle.std.proofs.lemmas.Bool.{cases_Bool}
use Rattle.board.specs.Sets.{has, mask, set_of}
use Rattle.board.proofs.Made.{joins}
use Rattle.board.proofs.Collected.{collects_none, collects_one, collects_not}
use Rattle.board.proofs.Digits.{has-zero, mask_below, mask_is}
use Rattle.board.proofs.Places.{mask-same}

-- the station at a place alone if it is chosen, and else none
abbrev pub one_if : Bool → ℕ → ℕ
one_if is_chosen place = set_of (λ other. eqb other place && is_chosen)

pub one-chosen : (is_chosen : Bool) (place : ℕ) → is_chosen ≡ true → one_if is_chosen place ≡ set_of (λ other. eqb other place)
one-chosen is_chosen place e =
    mask-same (λ other. eqb other place && is_chosen) (λ other. eqb other place) 16
    (λ other _. ap (λ b. eqb other place && b) e ∙ and-true (eqb other place))

pub one-none : (is_chosen : Bool) (place : ℕ) → is_chosen ≡ false → one_if is_chosen place ≡ 0
one-none is_chosen place e =
    sym (mask_is (λ other. eqb other place && is_chosen) 16 0 (omega arith)
    (λ other _. has-zero other ∙ sym (ap (λ b. eqb other place && b) e ∙ and-false (eqb other place))))

-- the same of a test
abbrev pub one_at : (ℕ → Bool) → ℕ → ℕ
one_at test place = one_if (test place) place

joins-none : (test : ℕ → Bool) (n : ℕ) → n ≤ 16 → joins (mask test n) 0 ≡ mask test n
joins-none test n small =
    sym (mask_is (λ place. has (mask test n) place || has 0 place) 16 (mask test n)
    (further (mask test n) (2 ^ n) (mask_below test n) (pow_mono {i = n} {j = 16} small))
    (λ place _. sym (ap (λ b. has (mask test n) place || b) (has-zero place) ∙ or-false (has (mask test n) place))))
  where
    further : (set bound : ℕ) → set < bound → bound ≤ 65536 → set < 65536
    further set bound s t = omega arith

one_more : (test : ℕ → Bool) (from : ℕ) → from < 16 → joins (mask test from) (one_at test from) ≡ mask test (from + 1)
one_more test from below =
    ⊎_elim
    (λ passes.
    collects_one test from (mask test from) (one_at test from) (joins (mask test from) (one_at test from)) below passes refl
    (one-chosen (test from) from passes)
    (mask-same (λ place. has (mask test from) place || has (one_at test from) place)
    (λ place. has (one_at test from) place || has (mask test from) place) 16
    (λ place _. or_comm (has (mask test from) place) (has (one_at test from) place))))
    (λ fails.
    ap (joins (mask test from)) (one-none (test from) from fails)
    ∙ joins-none test from (omega arith)
    ∙ collects_not test from (mask test from) fails refl)
    (cases_Bool (test from))

joins-one_by_one :
    (test : ℕ → Bool) (n from : ℕ) → from + n ≤ 16
    → fold joins (mask test from) (map (one_at test) (range_with_len from n)) ≡ mask test (from + n)
joins-one_by_one test zero from below = ap (mask test) (omega arith)
joins-one_by_one test (suc n) from below =
    ap (λ set. fold joins set (map (one_at test) (range_with_len (from + 1) n))) (one_more test from (omega arith))
    ∙ joins-one_by_one test n (from + 1) (omega arith)
    ∙ ap (mask test) (omega arith)

-- joined from none, they are the set of the places that pass
pub joins-all : (test : ℕ → Bool) → fold joins 0 (map (one_at test) (range_with_len 0 16)) ≡ set_of test
joins-all test =
    ap (λ set. fold joins set (map (one_at test) (range_with_len 0 16))) (collects_none test)
    ∙ joins-one_by_one test 16 0 (omega arith)
