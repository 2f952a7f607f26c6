-- The table, computed from the definitions. Assumes nothing.
use Rattle.std.proofs.Common.{refl}
use Rattle.board.specs.Sets.{has, all, some, count, mask}
use Rattle.worked_boards.specs.Cases.{WorkedOut}

pub worked_out : WorkedOut
unfolding has all some count mask
worked_out = refl
