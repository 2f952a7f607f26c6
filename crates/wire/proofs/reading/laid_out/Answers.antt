use Rattle.std.proofs.Common.{arith}
use Rattle.std.proofs.lemmas.Bool.Decides.{nat_tests}
use Rattle.wire.specs.Format.{read_layout}
use Rattle.wire.proofs.Verdicts.{layout_unfit, layout_unspare, layout_good}
use Rattle.wire.proofs.reading.laid_out.Goals as goal
use Rattle.wire.proofs.reading.laid_out.Goals.{then-not-is_fitting-via-then-not-is_fitting, then-not-is_fitting-via-else-not-is_fitting+then-not-is_spare}

pub returns-then-block-ne-KIND : goal.returns-then-block-ne-KIND
unfolding read_layout
returns-then-block-ne-KIND c = grind (arith, nat_tests)

pub returns-then-not-is_fitting : goal.returns-then-not-is_fitting
returns-then-not-is_fitting c =
    elim c.then-not-is_fitting.branch [
      | then-not-is_fitting-via-then-not-is_fitting w ↦
          layout_unfit c.args.block.now c.message_in.result c.message_in.ensures w.if-not-is_fitting.ensures.answer
      | then-not-is_fitting-via-else-not-is_fitting+then-not-is_spare w ↦
          layout_unspare c.args.block.now w.if-not-is_spare.ensures
    ]

pub returns : goal.returns
returns c =
    layout_good c.args.block.now c.message_in.result c.message_in.ensures
    c.if-block-ne-KIND.false c.if-note_length-gt-NOTE.false
    c.if-not-is_fitting.ensures.answer c.if-not-is_spare.ensures
