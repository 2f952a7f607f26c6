-- The check of a block depends on its first 508 bytes alone. Assumes nothing.
use Rattle.std.proofs.Common.{◌≡◌, ℕ, ◌+◌, ◌*◌, ◌<◌, List, ◌++◌, length, take, ap, ◌∙◌, arith}
use Rattle.std.proofs.lemmas.List.{get_or_append_left, take_at}
use Rattle.wire.specs.Words.{in_four, byte}
use Rattle.wire.specs.Format.{check_sum, weighted}
use Rattle.wire.proofs.Sums.{sum_below-same}

pub check_sum-same :
    (xs ys : List ℕ) → ((k : ℕ) → k < 508 → byte xs k ≡ byte ys k) → check_sum xs ≡ check_sum ys
unfolding check_sum
check_sum-same xs ys same =
    sum_below-same 508 (weighted xs) (weighted ys) (λ k h. ap (λ b. (k + 1) * b) (same k h))

pub check_sum-front : (part rest : List ℕ) → length part ≡ 508 → check_sum (part ++ rest) ≡ check_sum part
check_sum-front part rest whole =
    check_sum-same (part ++ rest) part (λ k h. get_or_append_left part rest 0 k (omega arith))

-- what laying out and sealing leave
pub sealed_is :
    (laid sealed part rest : List ℕ) → length part ≡ 508 → laid ≡ part ++ rest
    → sealed ≡ take 508 laid ++ in_four (check_sum laid)
    → (sealed ≡ part ++ in_four (check_sum part)) × (check_sum laid ≡ check_sum part)
sealed_is laid sealed part rest whole laid-is sealing =
    let sum = ap check_sum laid-is ∙ check_sum-front part rest whole in (
      sealing
          ∙ ap (λ start. start ++ in_four (check_sum laid)) (ap (take 508) laid-is ∙ take_at part rest 508 whole)
          ∙ ap (λ s. part ++ in_four s) sum,
      sum,
    )
