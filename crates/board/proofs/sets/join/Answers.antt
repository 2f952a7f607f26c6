use Rattle.std.proofs.Common.{arith}
use Rattle.board.proofs.Masks.{join_is}
use Rattle.board.proofs.sets.join.Goals as goal

pub returns : goal.returns
returns c = join_is c.args.one c.args.other (omega arith) (omega arith)
