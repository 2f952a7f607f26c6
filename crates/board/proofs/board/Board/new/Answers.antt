use Rattle.std.proofs.Common.{sym}
use Rattle.board.proofs.Made.{board_of_sets}
use Rattle.board.proofs.board.Board.new.Goals as goal

pub returns : goal.returns
returns c = sym (board_of_sets _)
