use Rattle.std.proofs.Common.{arith}
use Rattle.board.proofs.Facts.{lead_bound}
use Rattle.rules.proofs.threshold.sentences.View.does_lead_with.Goals as goal

pub overflow_add-result : goal.overflow_add-result
overflow_add-result c = omega (arith, lead_bound c.args.self.now.board.now c.args.other c.args.place)
