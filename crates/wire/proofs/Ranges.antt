-- Lists whose numbers all lie in a range, and a loop that tests whether they do. Assumes nothing.
use Rattle.std.proofs.Common.{◌≡◌, ℕ, zero, suc, ◌+◌, ◌<◌, ◌≤◌, true, false, List, [], ◌∷◌, length, get_or, drop, replicate, refl, arith}
use Rattle.std.proofs.lemmas.List.{at_drop_more, at_drop_all}
use Rattle.std.proofs.lemmas.Bool.Decides.{nat_tests}
use Rattle.wire.specs.Words.{all_within}

module _ (low high : ℕ) (numbers : List ℕ) (i : ℕ) where
  pub within_more :
      i < length numbers → low ≤ get_or numbers i 0 → get_or numbers i 0 ≤ high
      → all_within low high (drop (i + 1) numbers) ≡ all_within low high (drop i numbers)
  within_more inside above below =
      let step = at_drop_more (all_within low high) numbers i 0 inside in
      grind (arith, nat_tests)

  pub within_below :
      i < length numbers → get_or numbers i 0 < low → false ≡ all_within low high (drop i numbers)
  within_below inside below =
      let step = at_drop_more (all_within low high) numbers i 0 inside in
      grind (arith, nat_tests)

  pub within_above :
      i < length numbers → high < get_or numbers i 0 → false ≡ all_within low high (drop i numbers)
  within_above inside above =
      let step = at_drop_more (all_within low high) numbers i 0 inside in
      grind (arith, nat_tests)

  pub within_all : length numbers ≤ i → true ≡ all_within low high (drop i numbers)
  within_all past =
      let end = at_drop_all (all_within low high) numbers i past in
      grind (arith, nat_tests)

-- each number of a list that lies in a range
pub within_at :
    (low high : ℕ) (numbers : List ℕ) (i : ℕ) → i < length numbers → all_within low high numbers ≡ true
    → (low ≤ get_or numbers i 0) × (get_or numbers i 0 ≤ high)
within_at low high [] i inside all = absurd (omega arith)
within_at low high (number ∷ numbers) zero inside all = (grind (arith, nat_tests), grind (arith, nat_tests))
within_at low high (number ∷ numbers) (suc i) inside all =
    within_at low high numbers i (omega arith) (grind (arith, nat_tests))

pub within_zeros : (m : ℕ) → all_within 0 0 (replicate m 0) ≡ true
within_zeros zero = refl
within_zeros (suc m) = within_zeros m
