use Rattle.std.proofs.Common.{false, slice_index_or, ◌∙◌}
use Rattle.board.proofs.Collected.{collects_none, collects_one, collects_not}
use Rattle.board.proofs.sets.set_of.Goals as goal
use Rattle.board.proofs.sets.set_of.Goals.{then-does_pass, else-does_pass}

pub loop-place-init : goal.loop-place-init
loop-place-init c = collects_none (λ place. slice_index_or c.args.passes.now place false)

pub loop-place-preserved : goal.loop-place-preserved
loop-place-preserved c =
    elim c.if-does_pass.branch [
      | then-does_pass w ↦
          w.set-is
          ∙ collects_one (λ place. slice_index_or c.args.passes.now place false) c.loop-place.place c.loop-place.set w.alone.result
          w.join-set.result c.loop-place-test.true w.if-does_pass.true c.loop-place.invariant w.alone.ensures w.join-set.ensures
      | else-does_pass w ↦
          w.set-is
          ∙ collects_not (λ place. slice_index_or c.args.passes.now place false) c.loop-place.place c.loop-place.set
          w.if-does_pass.false c.loop-place.invariant
    ]
