-- What the operations on sixteen bits make of sets of stations. Assumes nothing.
use Rattle.std.proofs.Common.{◌≡◌, ℕ, zero, suc, ◌-◌, ◌*◌, ◌/◌, ◌%◌, ◌^◌, ◌<◌, ◌≤◌, Bool, true, false, not, ◌&&◌, ◌||◌, eqb, ltb, sym, refl, ap, ◌∙◌, ⊎_elim, one-add, arith, shr-shr}
use lib.Bits.{bit_and, bit_or, and_le_l, or_lt}
use lib.Count.{ones}
use lib.Pow.{pow-lt}
use Rattle.std.proofs.lemmas.Nat.{one_shl, and_mask}
use Rattle.std.proofs.lemmas.Bool.{cases_Bool, true≢false, eq-eqb, ne_eqb, lt-ltb, eqb-true}
use Rattle.std.proofs.lemmas.Bool.Decides.{same_from_decides}
use Rattle.board.specs.Sets.{has, count, mask, implies, within}
use Rattle.board.proofs.Places.{all_decides}
use Rattle.board.proofs.Digits.{has-zero, has-below, has-mask, mask_is, ones_count, has_and, has_or, has_not, has_power, has_first}

has_shifted : (set place : ℕ) → eqb (set / 2 ^ place % 2) 1 ≡ has set place
unfolding has
has_shifted set zero = ap (λ s. eqb (s % 2) 1) (whole set)
  where
    whole : (s : ℕ) → s / 2 ^ 0 ≡ s
    whole s = omega arith
has_shifted set (suc place) =
    ap (λ s. eqb (s % 2) 1) (ap (λ k. set / 2 ^ k) (sym (one-add place)) ∙ sym (shr-shr set 1 place))
    ∙ has_shifted (set / 2) place

pub holds-is : (set place : ℕ) → eqb (bit_and (set / 2 ^ place) 1) 1 ≡ has set place
holds-is set place = ap (λ s. eqb s 1) (and_mask (set / 2 ^ place) 1) ∙ has_shifted set place

-- no station stands past the sixteenth place
pub holds_past : (set place : ℕ) → set < 65536 → 16 ≤ place → false ≡ has set place
holds_past set place h past =
    ⊎_elim (λ e. absurd (never (has-below 16 set place h e))) sym (cases_Bool (has set place))
  where
    never : place < 16 → ⊥
    never below = omega arith

pub alone_is : (place : ℕ) → place < 16 → (1 * 2 ^ place) % 65536 ≡ mask (λ other. eqb other place) 16
alone_is place h =
    one_shl place 16 h ∙ mask_is (λ other. eqb other place) 16 (2 ^ place) (pow-lt h) (λ other _. has_power place other)

pub alone_past : (place : ℕ) → 16 ≤ place → 0 ≡ mask (λ other. eqb other place) 16
alone_past place past =
    mask_is (λ other. eqb other place) 16 0 (omega arith)
    (λ other below. has-zero other ∙ sym (ne_eqb other place (λ e. apart other below e)))
  where
    apart : (other : ℕ) → other < 16 → other ≡ place → ⊥
    apart other below e = omega arith

pub first-is : (n : ℕ) → n < 16 → (1 * 2 ^ n) % 65536 - 1 ≡ mask (λ place. ltb place n) 16
first-is n h =
    ap (λ s. s - 1) (one_shl n 16 h)
    ∙ mask_is (λ place. ltb place n) 16 (2 ^ n - 1) (less (2 ^ n) (pow-lt {i = n} {j = 16} h)) (λ place _. has_first n place)
  where
    less : (s : ℕ) → s < 65536 → s - 1 < 65536
    less s p = omega arith

pub first-all : (n : ℕ) → 16 ≤ n → 65535 ≡ mask (λ place. ltb place n) 16
first-all n h =
    mask_is (λ place. ltb place n) 16 65535 (omega arith)
    (λ place below. has_first 16 place ∙ lt-ltb place 16 below ∙ sym (lt-ltb place n (further place below)))
  where
    further : (place : ℕ) → place < 16 → place < n
    further place below = omega arith

pub join_is : (one other : ℕ) → one < 65536 → other < 65536 → bit_or one other ≡ mask (λ place. has one place || has other place) 16
join_is one other h k =
    mask_is (λ place. has one place || has other place) 16 (bit_or one other) (or_lt 16 one other h k) (λ place _. has_or one other place)

pub minus_is :
    (one other : ℕ) → one < 65536 → other < 65536
    → bit_and one (65535 - other) ≡ mask (λ place. has one place && not (has other place)) 16
minus_is one other h k =
    mask_is (λ place. has one place && not (has other place)) 16 (bit_and one (65535 - other))
    (omega (arith, and_le_l one (65535 - other)))
    (λ place below. has_and one (65535 - other) place ∙ ap (λ b. has one place && b) (has_not 16 other place k below))

pub size_is : (set : ℕ) → set < 65536 → ones set ≡ count (has set) 16
size_is set h = ones_count 16 set h

-- one set less the other is empty just where it lies within the other
pub within-is :
    (set other rest : ℕ) → rest ≡ mask (λ place. has set place && not (has other place)) 16 → eqb rest 0 ≡ within set other
within-is set other rest e =
    same_from_decides (eqb rest 0) (within set other) (
      (λ t place h. kept place h (sym (ap (λ s. has s place) (eqb-true rest 0 t)) ∙ ap (λ s. has s place) e)),
      (λ each. eq-eqb rest 0 (e ∙ sym (mask_is (λ place. has set place && not (has other place)) 16 0 (omega arith)
          (λ place h. has-zero place ∙ sym (dropped (has set place) (has other place) (each place h)))))),
    )
    (all_decides (λ place. implies (has set place) (has other place)) 16)
  where
    open_up : (x y : Bool) → (x && not y) ≡ false → implies x y ≡ true
    open_up true true h = refl
    open_up true false h = absurd (true≢false h)
    open_up false y h = refl

    dropped : (x y : Bool) → implies x y ≡ true → (x && not y) ≡ false
    dropped true true h = refl
    dropped true false h = absurd (true≢false (sym h))
    dropped false y h = refl

    kept :
        (place : ℕ) → place < 16 → has 0 place ≡ has (mask (λ k. has set k && not (has other k)) 16) place
        → implies (has set place) (has other place) ≡ true
    kept place h same =
        open_up (has set place) (has other place)
        (sym (has-mask (λ k. has set k && not (has other k)) 16 place h) ∙ sym same ∙ has-zero place)
