-- The digits of a mask: which stations are in it, and what the operations on bits make of them. Assumes nothing.
use Rattle.std.proofs.Common.{◌≡◌, ℕ, zero, suc, ◌+◌, ◌-◌, ◌*◌, ◌/◌, ◌%◌, ◌^◌, ◌<◌, min, max, Bool, true, false, cond, not, ◌&&◌, ◌||◌, eqb, ltb, sym, refl, ap, ◌∙◌, subst, ⊎_elim, one-mul, pow-suc, zero-mul, arith, pow_pos}
use lib.Bits.{bit_and, bit_or, and_step, or_step, block_half, block_odd}
use lib.Count.{ones, ones_step}
use Rattle.std.proofs.lemmas.Bool.{cases_eq, true≢false}
use Rattle.std.proofs.lemmas.Bool.Decides.{nat_tests}
use Rattle.board.specs.Sets.{has, count, mask}
use Rattle.board.proofs.Places.{one}

pub has-zero : (place : ℕ) → has 0 place ≡ false
unfolding has
has-zero zero = refl
has-zero (suc place) = has-zero place

twice : (n : ℕ) → 2 ^ suc n ≡ 2 * 2 ^ n
twice n = omega (arith, pow-suc 2 n)

-- a set below 2 ^ n has only places below n
pub has-below : (n set place : ℕ) → set < 2 ^ n → has set place ≡ true → place < n
unfolding has
has-below zero set place h e = absurd (true≢false (sym e ∙ ap (λ s. has s place) (empty set h) ∙ has-zero place))
  where
    empty : (s : ℕ) → s < 2 ^ 0 → s ≡ 0
    empty s below = omega arith
has-below (suc n) set zero h e = omega arith
has-below (suc n) set (suc place) h e =
    let below = has-below n (set / 2) place (omega (arith, twice n)) e in
    omega arith

-- two sets below 2 ^ n with the same places are equal
pub has_same :
    (n a b : ℕ) → a < 2 ^ n → b < 2 ^ n → ((place : ℕ) → place < n → has a place ≡ has b place) → a ≡ b
unfolding has
has_same zero a b h k same = omega arith
has_same (suc n) a b h k same =
    let halves =
    has_same n (a / 2) (b / 2) (omega (arith, twice n)) (omega (arith, twice n))
    (λ place below. same (suc place) (omega arith)) in
    let last : eqb (a % 2) 1 ≡ eqb (b % 2) 1 = same 0 (omega arith) in
    joined a b halves (odd (a % 2) (b % 2) (omega arith) (omega arith) last)
  where
    odd : (x y : ℕ) → x < 2 → y < 2 → eqb x 1 ≡ eqb y 1 → x ≡ y
    odd x y p q e = grind (arith, nat_tests)

    joined : (x y : ℕ) → x / 2 ≡ y / 2 → x % 2 ≡ y % 2 → x ≡ y
    joined x y p q = omega arith

-- a high digit above n others

has-high : (n digit rest : ℕ) → digit < 2 → rest < 2 ^ n → has (digit * 2 ^ n + rest) n ≡ eqb digit 1
unfolding has
has-high zero digit rest d r = ap (λ s. eqb s 1) (lowest digit rest d r)
  where
    lowest : (x y : ℕ) → x < 2 → y < 2 ^ 0 → (x * 2 ^ 0 + y) % 2 ≡ x
    lowest x y p q = omega arith
has-high (suc n) digit rest d r =
    ap (λ s. has s n) (block_half digit n rest) ∙ has-high n digit (rest / 2) d (omega (arith, twice n))

has-low : (n digit rest place : ℕ) → place < n → has (digit * 2 ^ n + rest) place ≡ has rest place
unfolding has
has-low zero digit rest place h = absurd (omega arith)
has-low (suc n) digit rest zero h = ap (λ s. eqb s 1) (block_odd digit n rest)
has-low (suc n) digit rest (suc place) h =
    ap (λ s. has s place) (block_half digit n rest) ∙ has-low n digit (rest / 2) place (omega arith)

scaled : (b : Bool) (n rest : ℕ) → cond b (2 ^ n) 0 + rest ≡ one b * 2 ^ n + rest
scaled true n rest = ap (λ s. s + rest) (sym (one-mul (2 ^ n)))
scaled false n rest = ap (λ s. s + rest) (sym (zero-mul (2 ^ n)))

one_below : (b : Bool) → one b < 2
one_below true = omega arith
one_below false = omega arith

one_tells : (b : Bool) → eqb (one b) 1 ≡ b
one_tells true = refl
one_tells false = refl

doubled : (b : Bool) (n rest : ℕ) → rest < 2 ^ n → cond b (2 ^ n) 0 + rest < 2 ^ suc n
doubled true n rest h = omega (arith, twice n)
doubled false n rest h = omega (arith, twice n)

pub mask_below : (test : ℕ → Bool) (n : ℕ) → mask test n < 2 ^ n
unfolding mask
mask_below test zero = omega arith
mask_below test (suc n) = doubled (test n) n (mask test n) (mask_below test n)

-- the set of the places that pass a test has just these
pub has-mask : (test : ℕ → Bool) (n place : ℕ) → place < n → has (mask test n) place ≡ test place
unfolding mask
has-mask test zero place h = absurd (omega arith)
has-mask test (suc n) place h =
    ap (λ s. has s place) (scaled (test n) n (mask test n))
    ∙ ⊎_elim
    (λ e. subst (λ (k : ℕ). has (one (test n) * 2 ^ n + mask test n) k ≡ test k) (sym e)
    (has-high n (one (test n)) (mask test n) (one_below (test n)) (mask_below test n) ∙ one_tells (test n)))
    (λ ne. has-low n (one (test n)) (mask test n) place (omega arith) ∙ has-mask test n place (omega arith))
    (cases_eq place n)

-- a set below 2 ^ n is the set of the places that it has
pub mask_is :
    (test : ℕ → Bool) (n set : ℕ) → set < 2 ^ n → ((place : ℕ) → place < n → has set place ≡ test place) → set ≡ mask test n
mask_is test n set h each =
    has_same n set (mask test n) h (mask_below test n) (λ place below. each place below ∙ sym (has-mask test n place below))

-- the number of ones is the number of stations in the set

count_low : (test : ℕ → Bool) (n : ℕ) → count test (suc n) ≡ one (test 0) + count (λ place. test (suc place)) n
unfolding count
count_low test zero = refl
count_low test (suc n) = let below = count_low test n in omega arith

pub ones_count : (n set : ℕ) → set < 2 ^ n → ones set ≡ count (has set) n
unfolding has count ones
ones_count zero set h = ap ones (empty set h)
  where
    empty : (s : ℕ) → s < 2 ^ 0 → s ≡ 0
    empty s below = omega arith
ones_count (suc n) set h =
    let halves = ones_count n (set / 2) (omega (arith, twice n)) in
    let last = lowest (set % 2) (omega arith) in
    ones_step set ∙ omega (arith, halves, last, count_low (has set) n)
  where
    lowest : (x : ℕ) → x < 2 → x ≡ one (eqb x 1)
    lowest zero p = refl
    lowest (suc zero) p = refl
    lowest (suc (suc x)) p = absurd (omega arith)

-- operations on bits

both : (x y : ℕ) → x < 2 → y < 2 → eqb (min x y) 1 ≡ (eqb x 1 && eqb y 1)
both x y p q = grind (arith, nat_tests)

either : (x y : ℕ) → x < 2 → y < 2 → eqb (max x y) 1 ≡ (eqb x 1 || eqb y 1)
either x y p q = grind (arith, nat_tests)

pub has_and : (a b place : ℕ) → has (bit_and a b) place ≡ (has a place && has b place)
unfolding has
has_and a b zero =
    ap (λ s. eqb s 1) (lowest (bit_and a b) (bit_and (a / 2) (b / 2)) (a % 2) (b % 2) (omega arith) (omega arith) (and_step a b))
    ∙ both (a % 2) (b % 2) (omega arith) (omega arith)
  where
    lowest : (s t x y : ℕ) → x < 2 → y < 2 → s ≡ t * 2 + min x y → s % 2 ≡ min x y
    lowest s t x y p q e = omega arith
has_and a b (suc place) =
    ap (λ s. has s place) (halved (bit_and a b) (bit_and (a / 2) (b / 2)) (a % 2) (b % 2) (omega arith) (omega arith) (and_step a b))
    ∙ has_and (a / 2) (b / 2) place
  where
    halved : (s t x y : ℕ) → x < 2 → y < 2 → s ≡ t * 2 + min x y → s / 2 ≡ t
    halved s t x y p q e = omega arith

pub has_or : (a b place : ℕ) → has (bit_or a b) place ≡ (has a place || has b place)
unfolding has
has_or a b zero =
    ap (λ s. eqb s 1) (lowest (bit_or a b) (bit_or (a / 2) (b / 2)) (a % 2) (b % 2) (omega arith) (omega arith) (or_step a b))
    ∙ either (a % 2) (b % 2) (omega arith) (omega arith)
  where
    lowest : (s t x y : ℕ) → x < 2 → y < 2 → s ≡ t * 2 + max x y → s % 2 ≡ max x y
    lowest s t x y p q e = omega arith
has_or a b (suc place) =
    ap (λ s. has s place) (halved (bit_or a b) (bit_or (a / 2) (b / 2)) (a % 2) (b % 2) (omega arith) (omega arith) (or_step a b))
    ∙ has_or (a / 2) (b / 2) place
  where
    halved : (s t x y : ℕ) → x < 2 → y < 2 → s ≡ t * 2 + max x y → s / 2 ≡ t
    halved s t x y p q e = omega arith

pub has_not : (n set place : ℕ) → set < 2 ^ n → place < n → has ((2 ^ n - 1) - set) place ≡ not (has set place)
unfolding has
has_not zero set place h k = absurd (omega arith)
has_not (suc n) set zero h k =
    ap (λ s. eqb s 1) (flipped set (2 ^ suc n) (2 ^ n) h (twice n)) ∙ turned (set % 2) (omega arith)
  where
    flipped : (s all half : ℕ) → s < all → all ≡ 2 * half → ((all - 1) - s) % 2 ≡ 1 - s % 2
    flipped s all half p q = omega arith

    turned : (x : ℕ) → x < 2 → eqb (1 - x) 1 ≡ not (eqb x 1)
    turned zero p = refl
    turned (suc zero) p = refl
    turned (suc (suc x)) p = absurd (omega arith)
has_not (suc n) set (suc place) h k =
    ap (λ s. has s place) (halved set (2 ^ suc n) (2 ^ n) h (twice n))
    ∙ has_not n (set / 2) place (omega (arith, twice n)) (omega arith)
  where
    halved : (s all half : ℕ) → s < all → all ≡ 2 * half → ((all - 1) - s) / 2 ≡ (half - 1) - s / 2
    halved s all half p q = omega arith

pub has_power : (n place : ℕ) → has (2 ^ n) place ≡ eqb place n
unfolding has
has_power zero zero = refl
has_power zero (suc place) = has-zero place ∙ grind (arith, nat_tests)
has_power (suc n) zero = ap (λ s. eqb s 1) (even (2 ^ suc n) (2 ^ n) (twice n)) ∙ grind (arith, nat_tests)
  where
    even : (s t : ℕ) → s ≡ 2 * t → s % 2 ≡ 0
    even s t e = omega arith
has_power (suc n) (suc place) =
    ap (λ s. has s place) (half (2 ^ suc n) (2 ^ n) (twice n)) ∙ has_power n place ∙ grind (arith, nat_tests)
  where
    half : (s t : ℕ) → s ≡ 2 * t → s / 2 ≡ t
    half s t e = omega arith

-- all stations of a group of n
pub has_first : (n place : ℕ) → has (2 ^ n - 1) place ≡ ltb place n
unfolding has
has_first zero place = has-zero place ∙ grind (arith, nat_tests)
has_first (suc n) zero =
    ap (λ s. eqb s 1) (odd (2 ^ suc n) (2 ^ n) (pow_pos n) (twice n)) ∙ grind (arith, nat_tests)
  where
    odd : (s t : ℕ) → 0 < t → s ≡ 2 * t → (s - 1) % 2 ≡ 1
    odd s t p e = omega arith
has_first (suc n) (suc place) =
    ap (λ s. has s place) (half (2 ^ suc n) (2 ^ n) (pow_pos n) (twice n)) ∙ has_first n place ∙ grind (arith, nat_tests)
  where
    half : (s t : ℕ) → 0 < t → s ≡ 2 * t → (s - 1) / 2 ≡ t - 1
    half s t p e = omega arith
