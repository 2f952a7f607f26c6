use Rattle.std.proofs.Common.{arith}
use Rattle.board.proofs.Facts.{absent_bound, voters_bound}
use Rattle.rules.proofs.threshold.sentences.View.does_fall_short.Goals as goal

pub overflow_add-result : goal.overflow_add-result
overflow_add-result c = omega (arith, voters_bound c.args.self.now.board.now c.args.place, absent_bound c.args.self.now.board.now)
