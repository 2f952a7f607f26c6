use Rattle.std.proofs.Common.{◌∙◌, arith}
use Rattle.std.proofs.lemmas.Bool.{le-leb}
use Rattle.board.proofs.Made.{up_to-all, up_to-is}
use Rattle.board.proofs.board.making.is_up_to.Goals as goal

pub returns-then-from-ge-STATIONS : goal.returns-then-from-ge-STATIONS
returns-then-from-ge-STATIONS c =
    le-leb 16 c.from.result (omega arith) ∙ up_to-all c.args.n c.args.set (omega arith) (omega arith)

pub returns-else-from-ge-STATIONS : goal.returns-else-from-ge-STATIONS
returns-else-from-ge-STATIONS c = up_to-is c.args.n c.args.set
