use Rattle.std.proofs.Common.{sym, arith}
use Rattle.wire.proofs.Verdicts.{reads-member}
use Rattle.wire.proofs.labelling.label.Goals as goal

pub overflow_sub-result : goal.overflow_sub-result
overflow_sub-result c = omega (arith, reads-member c.args.block.now _ (sym c.in_ok-reading.ensures.answer))

pub slice_bounds-result-end : goal.slice_bounds-result-end
slice_bounds-result-end c = omega (arith, reads-member c.args.block.now _ (sym c.in_ok-reading.ensures.answer))
