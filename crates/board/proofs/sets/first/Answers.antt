use Rattle.std.proofs.Common.{arith}
use Rattle.board.proofs.Masks.{first-is, first-all}
use Rattle.board.proofs.sets.first.Goals as goal

pub returns-then-from-lt-STATIONS : goal.returns-then-from-lt-STATIONS
returns-then-from-lt-STATIONS c = first-is c.args.n (omega arith)

pub returns-else-from-lt-STATIONS : goal.returns-else-from-lt-STATIONS
returns-else-from-lt-STATIONS c = first-all c.args.n (omega arith)
