-- Loops over the places: a set that is collected, a search for a place that passes. Assumes nothing.
use Rattle.std.proofs.Common.{◌≡◌, ℕ, suc, ◌+◌, ◌^◌, ◌<◌, ◌≤◌, Bool, true, false, cond, ◌&&◌, ◌||◌, eqb, ltb, sym, ap, ◌∙◌, ap₂, ⊎_elim, add-one, arith, pow_mono}
use Rattle.std.proofs.lemmas.Bool.{cases_Bool, cases_lt, cases_eq, lt-ltb, le-ltb, or_from, eq-eqb, ne_eqb}
use Rattle.std.proofs.lemmas.Bool.Decides.{nat_tests}
use Rattle.board.specs.Sets.{has, some, mask}
use Rattle.board.proofs.Places.{some-from, some_more, mask-none}
use Rattle.board.proofs.Digits.{has-below, has-mask, has_same, mask_below}

-- a collected set has a place just where it lies below the bound and passes
pub has_collected : (test : ℕ → Bool) (n place : ℕ) → has (mask test n) place ≡ (ltb place n && test place)
has_collected test n place =
    ⊎_elim
    (λ below. has-mask test n place below ∙ sym (ap (λ b. b && test place) (lt-ltb place n below)))
    (λ past.
    ⊎_elim (λ e. absurd (never past (has-below n (mask test n) place (mask_below test n) e)))
    (λ e. e ∙ sym (ap (λ b. b && test place) (le-ltb place n past)))
    (cases_Bool (has (mask test n) place)))
    (cases_lt place n)
  where
    never : n ≤ place → place < n → ⊥
    never past below = omega arith

pub collects_none : (test : ℕ → Bool) → 0 ≡ mask test 0
collects_none test = sym (mask-none test)

taken :
    (test : ℕ → Bool) (place k : ℕ) → test place ≡ true
    → (eqb k place || (ltb k place && test k)) ≡ (ltb k (suc place) && test k)
taken test place k e =
    ⊎_elim
    (λ same.
    ap (λ b. b || (ltb k place && test k)) (eq-eqb k place same)
    ∙ sym (ap₂ (λ a b. a && b) (lt-ltb k (suc place) (omega arith)) (ap test same ∙ e)))
    (λ apart.
    ap (λ b. b || (ltb k place && test k)) (ne_eqb k place apart)
    ∙ ap (λ b. b && test k) (below k apart))
    (cases_eq k place)
  where
    below : (j : ℕ) → (j ≡ place → ⊥) → ltb j place ≡ ltb j (suc place)
    below j apart = grind (arith, nat_tests)

pub collects_one :
    (test : ℕ → Bool) (place before alone after : ℕ) → place < 16 → test place ≡ true → before ≡ mask test place
    → alone ≡ mask (λ other. eqb other place) 16
    → after ≡ mask (λ k. has alone k || has before k) 16
    → after ≡ mask test (place + 1)
collects_one test place before alone after h e b a r =
    r ∙ has_same 16 (mask (λ k. has alone k || has before k) 16) (mask test (suc place))
    (mask_below (λ k. has alone k || has before k) 16)
    (further (mask test (suc place)) (2 ^ suc place) (mask_below test (suc place)) (pow_mono {i = suc place} {j = 16} h))
    (λ k below.
    has-mask (λ j. has alone j || has before j) 16 k below
    ∙ ap₂ (λ x y. x || y)
    (ap (λ s. has s k) a ∙ has-mask (λ other. eqb other place) 16 k below)
    (ap (λ s. has s k) b ∙ has_collected test place k)
    ∙ taken test place k e
    ∙ sym (has_collected test (suc place) k))
    ∙ ap (mask test) (sym (add-one place))
  where
    further : (set bound : ℕ) → set < bound → bound ≤ 65536 → set < 65536
    further set bound s t = omega arith

pub collects_not : (test : ℕ → Bool) (place before : ℕ) → test place ≡ false → before ≡ mask test place → before ≡ mask test (place + 1)
unfolding mask
collects_not test place before e b =
    b ∙ sym (ap (λ here. cond here (2 ^ place) 0 + mask test place) e ∙ zeroed (mask test place))
    ∙ ap (mask test) (sym (add-one place))
  where
    zeroed : (s : ℕ) → 0 + s ≡ s
    zeroed s = omega arith

-- a search for a place that passes

pub some-found : (test : ℕ → Bool) (n place : ℕ) → place < n → test place ≡ true → true ≡ some test n
some-found test n place h e = sym (some-from test n place h e)

pub some_goes_on : (test : ℕ → Bool) (place : ℕ) → some test place ≡ false → test place ≡ false → some test (place + 1) ≡ false
some_goes_on test place below here =
    ap (some test) (add-one place) ∙ some_more test place ∙ or_from (test place) (some test place) here below
