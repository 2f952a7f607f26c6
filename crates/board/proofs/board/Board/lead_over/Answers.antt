use Rattle.std.proofs.Common.{not, ◌&&◌, ◌∙◌, ap₂}
use Rattle.board.specs.Boards.{votes_at}
use Rattle.board.specs.Sets.{has, mask}
use Rattle.board.proofs.Made.{number-told}
use Rattle.board.proofs.board.Board.lead_over.Goals as goal

pub returns : goal.returns
returns c =
    number-told
    (λ voter. votes_at c.args.self.now voter c.args.one && not (votes_at c.args.self.now voter c.args.other))
    c.minus.result c.size.result
    (c.minus.ensures
    ∙ ap₂ (λ x y. mask (λ voter. has x voter && not (has y voter)) 16) c.voters_of.ensures c.voters_of-2.ensures)
    c.size.ensures
