use Rattle.std.proofs.Common.{arith}
use Rattle.board.proofs.Masks.{size_is}
use Rattle.board.proofs.sets.size.Goals as goal

pub returns : goal.returns
returns c = size_is c.args.set (omega arith)
