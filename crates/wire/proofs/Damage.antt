-- Why damage is found: one altered byte, or two unequal ones exchanged, change the weighted sum. Assumes nothing.
use Rattle.std.proofs.Common.{◌≡◌, ℕ, zero, suc, ◌+◌, ◌-◌, ◌*◌, ◌<◌, ◌≤◌, eqb, List, length, set, Err, sym, ap, ◌∙◌, inl, inr, add-mul, arith}
use native.Mathlib.Nat.{eq_of_mul-eq-mul_left}
use Rattle.std.proofs.lemmas.List.Edits.{swap_is}
use Rattle.std.proofs.lemmas.List.{get_or-set_same, get_or-set_other, length-set}
use Rattle.std.proofs.lemmas.Bool.{cases_eq, cases_lt, cond-true, cond-false, eq-eqb, ne_eqb}
use Rattle.wire.specs.declared.fault.Fault.TheVariants.{Length, Check}
use Rattle.wire.specs.Words.{byte, four_bytes, sum_below}
use Rattle.wire.specs.Format.{check_holds, check_sum, read_layout, reading, weighted}
use Rattle.wire.specs.Laws.{AlteredIsRefused, ExchangedIsRefused}
use Rattle.wire.proofs.Seals.{check_sum-same}
use Rattle.wire.proofs.Sums.{sum_below-same}
use Rattle.wire.proofs.Verdicts.{reads-well}

-- two sums whose terms differ at one place
sum_below_change :
    (n : ℕ) (f g : ℕ → ℕ) (p : ℕ) → p < n → ((k : ℕ) → (k ≡ p → ⊥) → f k ≡ g k)
    → sum_below n f + g p ≡ sum_below n g + f p
unfolding sum_below
sum_below_change zero f g p inside same = absurd (omega arith)
sum_below_change (suc n) f g p inside same =
    elim (cases_eq p n) [
      | inl here ↦
          let below = sum_below-same n f g (λ k h. same k (λ e. omega arith)) in
          let fp = ap f here in
          let gp = ap g here in
          omega arith
      | inr apart ↦
          let below = sum_below_change n f g p (omega arith) same in
          let last = same n (λ e. apart (sym e)) in
          omega arith
    ]

-- the check with one byte altered
check_sum-set :
    (block : List ℕ) (place value : ℕ) → place < 508 → length block ≡ 512
    → check_sum (set block place value) + weighted block place ≡ check_sum block + (place + 1) * value
unfolding check_sum
check_sum-set block place value inside long =
    let change =
    sum_below_change 508 (weighted (set block place value)) (weighted block) place inside
    (λ k apart. ap (λ b. (k + 1) * b) (get_or-set_other block place k value 0 apart)) in
    let here = ap (λ b. (place + 1) * b) (get_or-set_same block place value 0 (omega arith)) in
    omega arith

-- a block of the right length whose check differs is refused for it
check-refused : (block : List ℕ) → length block ≡ 512 → (four_bytes block 508 ≡ check_sum block → ⊥) → reading block ≡ Err Check
unfolding reading
check-refused block long differs =
    cond-true (eqb (length block) 512) _ (Err Length) (eq-eqb (length block) 512 long)
    ∙ cond-false (check_holds block) (read_layout block) (Err Check) (ne_eqb (four_bytes block 508) (check_sum block) differs)

-- factors that differ make products that differ
apart_products : (m a b : ℕ) → (m + 1) * a ≡ (m + 1) * b → a ≡ b
apart_products m a b e = eq_of_mul-eq-mul_left (m + 1) (omega arith) a b e

-- an altered byte below the check leaves the stated check, and changes the sum
altered_below :
    (block : List ℕ) (place value : ℕ) → length block ≡ 512 → four_bytes block 508 ≡ check_sum block
    → place < 508 → (byte block place ≡ value → ⊥)
    → four_bytes (set block place value) 508 ≡ check_sum (set block place value) → ⊥
altered_below block place value long holds inside apart e =
    let sums = check_sum-set block place value inside long in
    let a = get_or-set_other block place 508 value 0 (λ k. omega arith) in
    let b = get_or-set_other block place 509 value 0 (λ k. omega arith) in
    let c = get_or-set_other block place 510 value 0 (λ k. omega arith) in
    let d = get_or-set_other block place 511 value 0 (λ k. omega arith) in
    apart (apart_products place (byte block place) value (omega arith))

-- an altered byte of the check changes the stated check, and leaves the sum
altered_check :
    (block : List ℕ) (place value : ℕ) → length block ≡ 512 → four_bytes block 508 ≡ check_sum block
    → 508 ≤ place → place < 512 → (byte block place ≡ value → ⊥)
    → four_bytes (set block place value) 508 ≡ check_sum (set block place value) → ⊥
altered_check block place value long holds past inside apart e =
    let same = check_sum-same (set block place value) block (λ k h. get_or-set_other block place k value 0 (λ q. omega arith)) in
    elim (cases_eq place 508) [
      | inl at-508 ↦
          let a = own 508 at-508 in
          let b = other 509 (λ q. omega arith) in
          let c = other 510 (λ q. omega arith) in
          let d = other 511 (λ q. omega arith) in
          apart (ap (byte block) at-508 ∙ omega arith)
      | inr not-508 ↦
          elim (cases_eq place 509) [
            | inl at-509 ↦
                let a = other 508 (λ q. omega arith) in
                let b = own 509 at-509 in
                let c = other 510 (λ q. omega arith) in
                let d = other 511 (λ q. omega arith) in
                apart (ap (byte block) at-509 ∙ omega arith)
            | inr not-509 ↦
                elim (cases_eq place 510) [
                  | inl at-510 ↦
                      let a = other 508 (λ q. omega arith) in
                      let b = other 509 (λ q. omega arith) in
                      let c = own 510 at-510 in
                      let d = other 511 (λ q. omega arith) in
                      apart (ap (byte block) at-510 ∙ omega arith)
                  | inr not-510 ↦
                      let at-511 : place ≡ 511 = omega arith in
                      let a = other 508 (λ q. omega arith) in
                      let b = other 509 (λ q. omega arith) in
                      let c = other 510 (λ q. omega arith) in
                      let d = own 511 at-511 in
                      apart (ap (byte block) at-511 ∙ omega arith)
                ]
          ]
    ]
  where
    own : (q : ℕ) → place ≡ q → byte (set block place value) q ≡ value
    own q at = ap (byte (set block place value)) (sym at) ∙ get_or-set_same block place value 0 (omega arith)

    other : (q : ℕ) → (q ≡ place → ⊥) → byte (set block place value) q ≡ byte block q
    other q away = get_or-set_other block place q value 0 away

pub altered_refused : (block : List ℕ) → AlteredIsRefused block
altered_refused block contents place value reads inside apart =
    let well = reads-well block contents reads in
    check-refused (set block place value) (length-set block place value ∙ well.long)
    (elim (cases_lt place 508) [
      | inl below ↦ altered_below block place value well.long well.holds below apart
      | inr past ↦ altered_check block place value well.long well.holds past inside apart
    ])

-- two bytes written over one another
abbrev both : List ℕ → ℕ → ℕ → List ℕ
both block i j = set (set block i (byte block j)) j (byte block i)

-- weights that differ tell exchanged bytes from their places
cross : (m n x y : ℕ) → m < n → (m + 1) * x + (n + 1) * y ≡ (m + 1) * y + (n + 1) * x → x ≡ y
cross m n x y less e =
    let wider : n + 1 ≡ (m + 1) + (n - m) = omega arith in
    let at_x = ap (λ k. k * x) wider ∙ add-mul (m + 1) (n - m) x in
    let at_y = ap (λ k. k * y) wider ∙ add-mul (m + 1) (n - m) y in
    sym (eq_of_mul-eq-mul_left (n - m) (omega arith) y x (omega arith))

-- exchanged bytes leave the stated check, and change the sum
exchanged_differs :
    (block : List ℕ) (i j : ℕ) → length block ≡ 512 → four_bytes block 508 ≡ check_sum block
    → i < 508 → j < 508 → (byte block i ≡ byte block j → ⊥)
    → four_bytes (both block i j) 508 ≡ check_sum (both block i j) → ⊥
exchanged_differs block i j long holds i-inside j-inside apart e =
    let first = check_sum-set block i (byte block j) i-inside long in
    let second = check_sum-set once j (byte block i) j-inside (length-set block i (byte block j) ∙ long) in
    let kept = ap (λ b. (j + 1) * b) (get_or-set_other block i j (byte block j) 0 distinct) in
    let a = stays 508 (omega arith) in
    let b = stays 509 (omega arith) in
    let c = stays 510 (omega arith) in
    let d = stays 511 (omega arith) in
    elim (cases_lt i j) [
      | inl below ↦ apart (cross i j (byte block i) (byte block j) below (omega arith))
      | inr above ↦ apart (sym (cross j i (byte block j) (byte block i) (before above) (omega arith)))
    ]
  where
    once : List ℕ
    once = set block i (byte block j)

    distinct : j ≡ i → ⊥
    distinct same = apart (ap (byte block) (sym same))

    before : j ≤ i → j < i
    before h = elim (cases_eq j i) [ inl same ↦ absurd (distinct same) | inr other ↦ omega arith ]

    stays : (q : ℕ) → 508 ≤ q → byte (both block i j) q ≡ byte block q
    stays q past =
        get_or-set_other (set block i (byte block j)) j q (byte block i) 0 (λ at. omega arith)
        ∙ get_or-set_other block i q (byte block j) 0 (λ at. omega arith)

pub exchanged_refused : (block : List ℕ) → ExchangedIsRefused block
exchanged_refused block contents i j reads i-inside j-inside apart =
    let well = reads-well block contents reads in
    let long = well.long in
    ap reading (sym (swap_is block i j 0 (omega arith) (omega arith)))
    ∙ check-refused (both block i j)
    (length-set (set block i (byte block j)) j (byte block i) ∙ length-set block i (byte block j) ∙ long)
    (exchanged_differs block i j long well.holds i-inside j-inside apart)
