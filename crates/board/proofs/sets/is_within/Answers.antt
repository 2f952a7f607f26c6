use Rattle.board.proofs.Masks.{within-is}
use Rattle.board.proofs.sets.is_within.Goals as goal

pub returns : goal.returns
returns c = within-is c.args.set c.args.other c.minus.result c.minus.ensures
