use Rattle.std.proofs.Common.{ℕ, Ok, Option, ap, ◌∙◌}
use Rattle.board.specs.Boards.{board_of}
use Rattle.worked_boards.specs.Asking.{answered}
use Rattle.worked_boards.proofs.ask.Goals as goal

pub returns : goal.returns
returns g c =
    ap (λ (answer : Option ℕ). Ok answer) c.settle.ensures
    ∙ ap (answered (g.R.Rule.means c.args.rule.now))
    (c.in_ok-board.ensures ∙ ap (λ present. board_of c.args.n present c.args.voters) c.voting.ensures)
