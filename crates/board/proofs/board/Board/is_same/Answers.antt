use Rattle.std.proofs.Common.{◌≡◌, sym, ◌∙◌}
use Rattle.board.specs.Boards.{is_same_board}
use Rattle.board.proofs.Made.{comparing_decides}
use Rattle.board.proofs.board.Board.is_same.Goals as goal

pub returns-clause-same : goal.returns-clause-same
returns-clause-same c =
    let told : c.eq.result ≡ is_same_board c.args.self.now c.args.other.now = c.eq.ensures in
    let decides = comparing_decides c.args.self.now c.args.other.now in (λ e. decides.0 (sym told ∙ e), λ e. told ∙ decides.1 e)

pub returns-clause-comparing : goal.returns-clause-comparing
returns-clause-comparing c = comparing_decides
