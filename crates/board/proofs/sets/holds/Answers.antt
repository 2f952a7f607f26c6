use Rattle.std.proofs.Common.{◌∙◌, arith}
use Rattle.std.proofs.lemmas.Bool.{le-ltb}
use Rattle.board.proofs.Masks.{holds-is, holds_past}
use Rattle.board.proofs.sets.holds.Goals as goal

pub returns-then-place-lt-STATIONS : goal.returns-then-place-lt-STATIONS
returns-then-place-lt-STATIONS c = holds-is c.args.set c.args.place

pub returns-else-place-lt-STATIONS : goal.returns-else-place-lt-STATIONS
returns-else-place-lt-STATIONS c =
    le-ltb c.args.place 16 (omega arith) ∙ holds_past c.args.set c.args.place (omega arith) (omega arith)
