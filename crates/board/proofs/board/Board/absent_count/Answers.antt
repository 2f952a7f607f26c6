use Rattle.board.specs.Boards.{is_absent}
use Rattle.board.proofs.Made.{number-told}
use Rattle.board.proofs.board.Board.absent_count.Goals as goal

pub returns : goal.returns
returns c =
    number-told (is_absent c.args.self.now) c.absent_set.result c.size.result c.absent_set.ensures
    c.size.ensures
