use Rattle.std.proofs.Common.{arith}
use Rattle.board.proofs.Masks.{minus_is}
use Rattle.board.proofs.sets.minus.Goals as goal

pub returns : goal.returns
returns c = minus_is c.args.one c.args.other (omega arith) (omega arith)
