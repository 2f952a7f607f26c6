use Rattle.std.proofs.Common.{refl}
use Rattle.worked_boards.proofs.Computed.{worked_out}
use Rattle.worked_boards.proofs.Nobody.{nobody-is_a_board}
use Rattle.worked_boards.proofs.worked_boards.Goals as goal

pub returns : goal.returns
returns c = record { table = refl; answers = worked_out; nobody = nobody-is_a_board }
