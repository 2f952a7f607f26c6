use Rattle.std.proofs.Common.{arith}
use Rattle.board.proofs.Facts.{absent_bound}
use Rattle.rules.proofs.threshold.sentences.View.is_source.Goals as goal

pub is_led_with-requires : goal.is_led_with-requires
is_led_with-requires c = omega (arith, absent_bound c.args.self.now.board.now)
