use Rattle.std.proofs.Common.{◌≡◌, ℕ, ◌+◌, ◌*◌, ◌<◌, ◌≤◌, List, length, min, sym, ap, ◌∙◌, mul-zero, arith}
use Rattle.std.proofs.lemmas.Nat.{mul-le}
use Rattle.std.proofs.lemmas.List.{get_or_past, get_or-take, length-take-le}
use Rattle.wire.specs.Format.{weighted, check_sum}
use Rattle.wire.specs.Words.{sum_below}
use Rattle.wire.proofs.Sums.{sum_below-none, sum_below-more, sum_below_ends}
use Rattle.wire.proofs.check.sum.Goals as goal

-- no term is above 508 × 255
term_bound : (weight value : ℕ) → weight ≤ 508 → value < 256 → weight * value ≤ 129540
term_bound weight value w v = mul-le weight value 508 255 w (omega arith)

pub loop-place-init : goal.loop-place-init
loop-place-init c = (sym (sum_below-none (weighted c.args.block.now)), omega arith)

pub overflow_add-sum : goal.overflow_add-sum
overflow_add-sum c =
    let long = length-take-le c.min.result c.args.block.now (omega arith) in
    let here = get_or-take c.min.result c.args.block.now c.loop-place.place 0 (omega arith) in
    let fit = c.type_inv.block c.loop-place.place in
    omega (arith, term_bound c.weight.result c.from.result (omega arith) (omega arith))

pub loop-place-preserved : goal.loop-place-preserved
loop-place-preserved c =
    let long = length-take-le c.min.result c.args.block.now (omega arith) in
    let here = get_or-take c.min.result c.args.block.now c.loop-place.place 0 (omega arith) in
    let fit = c.type_inv.block c.loop-place.place in
    let bound = term_bound c.weight.result c.from.result (omega arith) (omega arith) in
    let more = sum_below-more c.loop-place.place (weighted c.args.block.now) in
    (cc, omega arith)

-- bytes that are not there add nothing
past_end : (block : List ℕ) (place : ℕ) → length block ≤ place → weighted block place ≡ 0
past_end block place past = ap (λ byte. (place + 1) * byte) (get_or_past block place 0 past) ∙ mul-zero (place + 1)

pub returns : goal.returns
unfolding check_sum
returns c =
    let long = length-take-le c.min.result c.args.block.now (omega arith) in
    let all : c.loop-place.place ≡ min (length c.args.block.now) 508 = omega arith in
    c.loop-place.invariant.0
    ∙ ap (λ k. sum_below k (weighted c.args.block.now)) all
    ∙ sum_below_ends 508 (length c.args.block.now) (weighted c.args.block.now) (past_end c.args.block.now)
