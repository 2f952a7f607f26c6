-- The lowest station of a set. Assumes nothing.
use Rattle.std.specs.Prelude.{◌≡◌, ℕ, zero, suc, ◌<◌, ◌≤◌, Bool, true, false, not, Some, None, Option, MatchOption, ◌≢◌, nat_eq}
use Rattle.std.proofs.Common.{⊎_elim, sym, ap, ◌∙◌, arith}
use Rattle.std.proofs.lemmas.Bool.{and_from, and_left, and_right, cases_Bool, cases_eq, cases_lt, eq-eqb, ne_eqb, not_from_false, or_cases, true≢false}
use Rattle.board.specs.Sets.{has, some, mask}
use Rattle.board.proofs.Places.{some-from, some_not, some-none, some-nothing, some_more, mask-same}
use Rattle.board.proofs.Digits.{has-zero, mask_is}
use Rattle.lone_source.specs.Lowest.{leads_set}

-- where some place passes, one passes before all others
pub least :
    (test : ℕ → Bool) (n : ℕ) → some test n ≡ true
    → (place : ℕ) × (place < n) × (test place ≡ true) × (some test place ≡ false)
least test zero e = absurd (true≢false (sym e ∙ some-none test))
least test (suc n) e =
    ⊎_elim
    (λ earlier. let found = least test n earlier in (found.0, omega (arith, found.1), found.2, found.3))
    (λ none.
    ⊎_elim (λ here. (n, omega arith, here, none)) (λ earlier. absurd (true≢false (sym earlier ∙ none)))
    (or_cases (test n) (some test n) (sym (some_more test n) ∙ e)))
    (cases_Bool (some test n))

-- the first place that a search finds is the lowest
pub found_lowest :
    (set place : ℕ) → place < 16 → has set place ≡ true → some (has set) place ≡ false
    → mask (λ other. nat_eq other place) 16 ≡ mask (leads_set set) 16
found_lowest set place h e none =
    mask-same (λ other. nat_eq other place) (leads_set set) 16
    (λ other _.
    ⊎_elim
    (λ same.
    eq-eqb other place same
    ∙ sym (ap (leads_set set) same ∙ and_from (has set place) (not (some (has set) place)) e (not_from_false (some (has set) place) none)))
    (λ apart. ne_eqb other place apart ∙ sym (⊎_elim (before other) (after other apart) (cases_lt other place)))
    (cases_eq other place))
  where
    before : (other : ℕ) → other < place → leads_set set other ≡ false
    before other below = and_left (has set other) (not (some (has set) other)) (some_not (has set) place other none below)

    after : (other : ℕ) → (other ≢ place) → place ≤ other → leads_set set other ≡ false
    after other apart past =
        and_right (has set other) (not (some (has set) other)) (ap not (some-from (has set) other place (beyond other apart past) e))
      where
        beyond : (k : ℕ) → (k ≢ place) → place ≤ k → place < k
        beyond k ne le = omega arith

-- and a set in which nothing is found has none
pub found_none : (set : ℕ) → some (has set) 16 ≡ false → 0 ≡ mask (leads_set set) 16
found_none set none =
    mask_is (leads_set set) 16 0 (omega arith)
    (λ place h. has-zero place ∙ sym (and_left (has set place) (not (some (has set) place)) (some_not (has set) 16 place none h)))

-- what a search of the places for the first of a set answers, told as a set
pub lowest-is :
    (set : ℕ) (found : Option ℕ) (answer : ℕ)
    → MatchOption found ((k : ℕ) → 0 ≤ k → k < 16 → has set k ≡ false)
    (λ place. (0 ≤ place) × (place < 16) × (has set place ≡ true) × ((k : ℕ) → 0 ≤ k → k < place → has set k ≡ false))
    → MatchOption found (answer ≡ 0) (λ place. answer ≡ mask (λ other. nat_eq other place) 16)
    → answer ≡ mask (leads_set set) 16
lowest-is set None answer none is =
    is ∙ found_none set (some-nothing (has set) 16 (λ k below. none k (omega arith) below))
lowest-is set (Some place) answer first is =
    is ∙ found_lowest set place first.1 first.2 (some-nothing (has set) place (λ k below. first.3 k (omega arith) below))
