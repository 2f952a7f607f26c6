-- Sums of a term over the places below a number. Assumes nothing.
use Rattle.std.proofs.Common.{◌≡◌, ℕ, zero, suc, ◌+◌, ◌-◌, ◌*◌, ◌<◌, ◌≤◌, min, sym, refl, ap, ◌∙◌, inl, inr, suc-mul, add-one, arith}
use Rattle.std.proofs.lemmas.Bool.{cases_lt}
use Rattle.wire.specs.Words.{sum_below}

pub sum_below-none : (term : ℕ → ℕ) → sum_below 0 term ≡ 0
unfolding sum_below
sum_below-none term = refl

pub sum_below-more : (n : ℕ) (term : ℕ → ℕ) → sum_below (n + 1) term ≡ sum_below n term + term n
unfolding sum_below
sum_below-more n term = rw add-one

-- a sum depends on the terms below n alone
pub sum_below-same :
    (n : ℕ) (f g : ℕ → ℕ) → ((k : ℕ) → k < n → f k ≡ g k) → sum_below n f ≡ sum_below n g
unfolding sum_below
sum_below-same zero f g same = refl
sum_below-same (suc n) f g same =
    let below = sum_below-same n f g (λ k h. same k (omega arith)) in
    let here = same n (omega arith) in
    cc

-- terms that are 0 from m on add nothing
pub sum_below_past :
    (m k : ℕ) (term : ℕ → ℕ) → ((place : ℕ) → m ≤ place → term place ≡ 0) → sum_below (m + k) term ≡ sum_below m term
unfolding sum_below
sum_below_past m zero term none = ap (λ n. sum_below n term) (omega arith)
sum_below_past m (suc k) term none =
    ap (λ n. sum_below n term) (the_next m k)
    ∙ omega (arith, sum_below_past m k term none, none (m + k) (omega arith))
  where
    the_next : (a b : ℕ) → a + suc b ≡ suc (a + b)
    the_next a b = omega arith

-- a bound on each term bounds the sum
pub sum_below_bound :
    (n most : ℕ) (term : ℕ → ℕ) → ((k : ℕ) → k < n → term k ≤ most) → sum_below n term ≤ n * most
unfolding sum_below
sum_below_bound zero most term each = omega arith
sum_below_bound (suc n) most term each =
    omega (arith, sum_below_bound n most term (λ k h. each k (omega arith)), each n (omega arith), suc-mul n most)

-- One more place of a sum that stops at a limit: a place below the limit adds its term, any other adds nothing.

pub sum_below-step :
    (limit place sum : ℕ) (term : ℕ → ℕ)
    → place < limit
    → sum ≡ sum_below (min place limit) term
    → sum + term place ≡ sum_below (min (place + 1) limit) term
sum_below-step limit place sum term below so_far =
    let here = ap (λ n. sum_below n term) (the_same place limit below) in
    let next = ap (λ n. sum_below n term) (the_next place limit below) in
    omega (arith, sum_below-more place term)
  where
    the_same : (a b : ℕ) → a < b → min a b ≡ a
    the_same a b h = omega arith

    the_next : (a b : ℕ) → a < b → min (a + 1) b ≡ a + 1
    the_next a b h = omega arith

pub sum_below-stays :
    (limit place : ℕ) (term : ℕ → ℕ)
    → limit ≤ place
    → sum_below (min place limit) term ≡ sum_below (min (place + 1) limit) term
sum_below-stays limit place term past = ap (λ n. sum_below n term) (the_limit place limit past)
  where
    the_limit : (a b : ℕ) → b ≤ a → min a b ≡ min (a + 1) b
    the_limit a b h = omega arith

-- a sum up to a limit, of terms that are 0 from a place on
pub sum_below_ends :
    (limit m : ℕ) (term : ℕ → ℕ)
    → ((place : ℕ) → m ≤ place → term place ≡ 0)
    → sum_below (min m limit) term ≡ sum_below limit term
sum_below_ends limit m term none =
    elim (cases_lt m limit) [
      | inl short ↦
          ap (λ n. sum_below n term) (the_less m limit short)
          ∙ sym (sum_below_past m (limit - m) term none)
          ∙ ap (λ n. sum_below n term) (the_whole m limit short)
      | inr long ↦ ap (λ n. sum_below n term) (the_limit m limit long)
    ]
  where
    the_less : (a b : ℕ) → a < b → min a b ≡ a
    the_less a b h = omega arith

    the_whole : (a b : ℕ) → a < b → a + (b - a) ≡ b
    the_whole a b h = omega arith

    the_limit : (a b : ℕ) → b ≤ a → min a b ≡ b
    the_limit a b h = omega arith
