-- Tests over the places below a bound: every, some, how many, the set of them. Assumes nothing.
use Rattle.std.proofs.Common.{◌≡◌, ℕ, zero, suc, ◌+◌, ◌<◌, ◌≤◌, Bool, true, false, cond, ◌&&◌, ◌||◌, Decides, sym, refl, ap, ◌∙◌, ⊎_elim, arith}
use Rattle.std.proofs.lemmas.Bool.{cases_eq, cases_Bool, and_cases, true≢false}
use Rattle.std.proofs.lemmas.Bool.Decides.{Decides-below_and, Decides-below_or}
use Rattle.board.specs.Sets.{all, some, count, mask}

pub all_decides : (test : ℕ → Bool) (n : ℕ) → Decides (all test n) ((place : ℕ) → place < n → test place ≡ true)
unfolding all
all_decides test n =
    Decides-below_and test (λ place. test place ≡ true) (all test) (λ place. ((λ e. e), (λ e. e))) refl (λ _. refl) n

pub some_decides : (test : ℕ → Bool) (n : ℕ) → Decides (some test n) ((place : ℕ) × (place < n) × (test place ≡ true))
unfolding some
some_decides test n =
    Decides-below_or test (λ place. test place ≡ true) (some test) (λ place. ((λ e. e), (λ e. e))) refl (λ _. refl) n

pub all-at : (test : ℕ → Bool) (n place : ℕ) → all test n ≡ true → place < n → test place ≡ true
all-at test n place e h = (all_decides test n).0 e place h

pub all_from : (test : ℕ → Bool) (n : ℕ) → ((place : ℕ) → place < n → test place ≡ true) → all test n ≡ true
all_from test n each = (all_decides test n).1 each

pub some_at : (test : ℕ → Bool) (n : ℕ) → some test n ≡ true → (place : ℕ) × (place < n) × (test place ≡ true)
some_at test n e = (some_decides test n).0 e

pub some-from : (test : ℕ → Bool) (n place : ℕ) → place < n → test place ≡ true → some test n ≡ true
some-from test n place h e = (some_decides test n).1 (place, h, e)

-- where not every place passes, some place fails
pub all_not : (test : ℕ → Bool) (n : ℕ) → all test n ≡ false → (place : ℕ) × (place < n) × (test place ≡ false)
unfolding all
all_not test zero e = absurd (true≢false e)
all_not test (suc n) e =
    ⊎_elim (λ here. (n, omega arith, here))
    (λ below. let found = all_not test n below in (found.0, omega (arith, found.1), found.2))
    (and_cases (test n) (all test n) e)

pub some_not : (test : ℕ → Bool) (n place : ℕ) → some test n ≡ false → place < n → test place ≡ false
some_not test n place e h =
    ⊎_elim (λ t. absurd (true≢false (sym (some-from test n place h t) ∙ e))) (λ f. f) (cases_Bool (test place))

pub some-nothing : (test : ℕ → Bool) (n : ℕ) → ((place : ℕ) → place < n → test place ≡ false) → some test n ≡ false
some-nothing test n none =
    ⊎_elim
    (λ found. let place = some_at test n found in absurd (true≢false (sym place.2 ∙ none place.0 place.1)))
    (λ f. f) (cases_Bool (some test n))

-- one place more

pub all_none : (test : ℕ → Bool) → all test 0 ≡ true
unfolding all
all_none test = refl

pub all_more : (test : ℕ → Bool) (n : ℕ) → all test (suc n) ≡ (test n && all test n)
unfolding all
all_more test n = refl

pub some-none : (test : ℕ → Bool) → some test 0 ≡ false
unfolding some
some-none test = refl

pub some_more : (test : ℕ → Bool) (n : ℕ) → some test (suc n) ≡ (test n || some test n)
unfolding some
some_more test n = refl

pub mask-none : (test : ℕ → Bool) → mask test 0 ≡ 0
unfolding mask
mask-none test = refl

-- tests that agree below the bound

pub all_same : (p q : ℕ → Bool) (n : ℕ) → ((place : ℕ) → place < n → p place ≡ q place) → all p n ≡ all q n
unfolding all
all_same p q zero same = refl
all_same p q (suc n) same =
    let here = same n (omega arith) in
    let below = all_same p q n (λ place h. same place (omega arith)) in
    cc

pub some_same : (p q : ℕ → Bool) (n : ℕ) → ((place : ℕ) → place < n → p place ≡ q place) → some p n ≡ some q n
unfolding some
some_same p q zero same = refl
some_same p q (suc n) same =
    let here = same n (omega arith) in
    let below = some_same p q n (λ place h. same place (omega arith)) in
    cc

pub count_same : (p q : ℕ → Bool) (n : ℕ) → ((place : ℕ) → place < n → p place ≡ q place) → count p n ≡ count q n
unfolding count
count_same p q zero same = refl
count_same p q (suc n) same =
    let here = same n (omega arith) in
    let below = count_same p q n (λ place h. same place (omega arith)) in
    cc

pub mask-same : (p q : ℕ → Bool) (n : ℕ) → ((place : ℕ) → place < n → p place ≡ q place) → mask p n ≡ mask q n
unfolding mask
mask-same p q zero same = refl
mask-same p q (suc n) same =
    let here = same n (omega arith) in
    let below = mask-same p q n (λ place h. same place (omega arith)) in
    cc

-- counts in order

-- 1 where a test holds, and 0 where it fails
abbrev pub one : Bool → ℕ
one test = cond test 1 0

one_le : (x y : Bool) → (x ≡ true → y ≡ true) → one x ≤ one y
one_le false y h = omega (arith, one_le_any y)
  where
    one_le_any : (z : Bool) → 0 ≤ one z
    one_le_any z = omega arith
one_le true true h = omega arith
one_le true false h = absurd (true≢false (sym (h refl)))

pub count_le :
    (p q : ℕ → Bool) (n : ℕ) → ((place : ℕ) → place < n → p place ≡ true → q place ≡ true) → count p n ≤ count q n
unfolding count
count_le p q zero into = omega arith
count_le p q (suc n) into =
    let here = one_le (p n) (q n) (into n (omega arith)) in
    let below = count_le p q n (λ place h. into place (omega arith)) in
    omega arith

pub count_two :
    (p p' q q' : ℕ → Bool) (n : ℕ)
    → ((place : ℕ) → place < n → one (p place) + one (p' place) ≤ one (q place) + one (q' place))
    → count p n + count p' n ≤ count q n + count q' n
unfolding count
count_two p p' q q' zero into = omega arith
count_two p p' q q' (suc n) into =
    let here = into n (omega arith) in
    let below = count_two p p' q q' n (λ place h. into place (omega arith)) in
    omega arith

one-zero : (b : Bool) → one b ≡ 0 → b ≡ false
one-zero true e = absurd (omega arith)
one-zero false e = refl

pub count-zero : (p : ℕ → Bool) (n place : ℕ) → count p n ≡ 0 → place < n → p place ≡ false
unfolding count
count-zero p zero place e h = absurd (omega arith)
count-zero p (suc n) place e h =
    ⊎_elim (λ eq. ap p eq ∙ one-zero (p n) (omega arith)) (λ ne. count-zero p n place (omega arith) (omega arith)) (cases_eq place n)

pub count-nothing : (p : ℕ → Bool) (n : ℕ) → ((place : ℕ) → place < n → p place ≡ false) → count p n ≡ 0
unfolding count
count-nothing p zero none = refl
count-nothing p (suc n) none =
    let here = ap one (none n (omega arith)) in
    let below = count-nothing p n (λ place h. none place (omega arith)) in
    omega arith

one_bound : (b : Bool) → one b ≤ 1
one_bound true = omega arith
one_bound false = omega arith

pub count_bound : (p : ℕ → Bool) (n : ℕ) → count p n ≤ n
unfolding count
count_bound p zero = omega arith
count_bound p (suc n) =
    let here = one_bound (p n) in
    let below = count_bound p n in
    omega arith
