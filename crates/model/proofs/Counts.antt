-- Two lists of counts, place by place. Assumes nothing.
use Rattle.std.proofs.Common.{◌≡◌, ℕ, zero, suc, ◌+◌, ◌<◌, Bool, true, false, not, ◌&&◌, ◌||◌, leb, ltb, cond, min, List, length, get_or, refl, ap, ◌∙◌, ap₂, sym, arith}
use Rattle.std.proofs.lemmas.Grind.{common_steps}
use Rattle.std.specs.List.{list_any, zip}
use Rattle.std.proofs.lemmas.Bool.Decides.{nat_tests, same_from_decides}
use Rattle.std.proofs.lemmas.List.{get_or_default}
use Rattle.std.proofs.lemmas.List.Folds.{Any-from_list_any, list_any_at}
use Rattle.std.proofs.lemmas.Slice.Zip.{get_or-zip, length-zip}
use Rattle.board.specs.Sets.{all, some}
use Rattle.board.proofs.Places.{some_decides}
use Rattle.wire.specs.declared.message.Message.{Message}
use Rattle.model.specs.Arrays.{counts_by_station, one_more_if}
use Rattle.model.specs.Following.{counts_exceed}
use Rattle.model.specs.Heads.{is_ready}

-- a test of some pair is a test at some place
module _ (test : ℕ → ℕ → Bool) (xs ys : List ℕ) (n : ℕ) (long : length xs ≡ n) (as_long : length ys ≡ n) where
  pair : ℕ × ℕ → Bool
  pair p = test p.0 p.1

  pub zipped-some : list_any (λ p. test p.0 p.1) (zip xs ys) ≡ some (λ place. test (get_or xs place 0) (get_or ys place 0)) n
  zipped-some =
      same_from_decides (list_any (λ p. test p.0 p.1) (zip xs ys)) (some (λ place. test (get_or xs place 0) (get_or ys place 0)) n)
      (there, back) (some_decides (λ place. test (get_or xs place 0) (get_or ys place 0)) n)
    where
      there : list_any (λ p. test p.0 p.1) (zip xs ys) ≡ true → (place : ℕ) × (place < n) × (test (get_or xs place 0) (get_or ys place 0) ≡ true)
      there e =
          let found = Any-from_list_any (λ (p : ℕ × ℕ). test p.0 p.1) (zip xs ys) e in
          let both = length-zip xs ys in
          let left : found.0 < length xs = omega arith in
          let right : found.0 < length ys = omega arith in (
            found.0,
            omega arith,
            ap₂ test (get_or_default xs found.0 0 found.1.0 left) (get_or_default ys found.0 0 found.1.1 right)
                ∙ sym (ap (λ (p : ℕ × ℕ). test p.0 p.1) (get_or-zip xs ys found.0 found.1 left right))
                ∙ ap (λ (p : ℕ × ℕ). test p.0 p.1) found.3 ∙ found.4,
          )

      back : (place : ℕ) × (place < n) × (test (get_or xs place 0) (get_or ys place 0) ≡ true) → list_any (λ p. test p.0 p.1) (zip xs ys) ≡ true
      back found =
          let both = length-zip xs ys in
          let left : found.0 < length xs = omega arith in
          let right : found.0 < length ys = omega arith in
          list_any_at (λ (p : ℕ × ℕ). test p.0 p.1) (zip xs ys) found.0 (0, 0) (omega arith)
          (ap (λ (p : ℕ × ℕ). test p.0 p.1) (get_or-zip xs ys found.0 (0, 0) left right) ∙ found.2)

-- no place passes where every place fails
pub none_passes : (test fails : ℕ → Bool) (n : ℕ) → ((place : ℕ) → not (test place) ≡ fails place) → not (some test n) ≡ all fails n
unfolding some all
none_passes test fails zero same = refl
none_passes test fails (suc n) same = by (test n) (some test n) (fails n) (same n) (none_passes test fails n same)
  where
    by : (here below fail : Bool) → not here ≡ fail → not below ≡ all fails n → not (here || below) ≡ (fail && all fails n)
    by true below fail e rest = ap (λ b. b && all fails n) e
    by false below fail e rest = rest ∙ ap (λ b. b && all fails n) e

-- a message is ready where none of its counts is larger than what is released
pub ready-told :
    (released : List ℕ) (message : Message)
    → not (counts_exceed message.after released) ≡ is_ready (counts_by_station released) message
ready-told released message =
    none_passes (λ place. ltb (get_or released place 0) (get_or message.after place 0))
    (λ place. leb (get_or message.after place 0) (get_or released place 0)) 16
    (λ place. apart (get_or message.after place 0) (get_or released place 0))
  where
    apart : (a b : ℕ) → not (ltb b a) ≡ leb a b
    apart a b = grind (arith, nat_tests)

-- one more if asked for
pub one_more-told :
    (asked : Bool) (count given : ℕ) → count < 65536 → given ≡ min (count + cond asked 1 0) 65535 → given ≡ one_more_if asked count
one_more-told = grind (arith, common_steps)
