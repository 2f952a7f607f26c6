use Rattle.std.proofs.Common.{arith}
use Rattle.board.proofs.Masks.{alone_is, alone_past}
use Rattle.board.proofs.sets.alone.Goals as goal

pub returns-then-place-lt-STATIONS : goal.returns-then-place-lt-STATIONS
returns-then-place-lt-STATIONS c = alone_is c.args.place (omega arith)

pub returns-else-place-lt-STATIONS : goal.returns-else-place-lt-STATIONS
returns-else-place-lt-STATIONS c = alone_past c.args.place (omega arith)
