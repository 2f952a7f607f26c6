use Rattle.board.specs.Boards.{member}
use Rattle.board.proofs.Made.{rest-told}
use Rattle.board.proofs.board.Board.absent_set.Goals as goal

pub returns : goal.returns
returns c =
    rest-told (member c.args.self.now) c.members.result c.args.self.now.present c.minus.result c.members.ensures
    c.minus.ensures
