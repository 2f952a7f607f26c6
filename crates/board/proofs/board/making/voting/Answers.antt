use Rattle.std.proofs.Common.{◌≡◌, ◌∙◌, rules}
use Rattle.std.specs.List.{fold}
use Rattle.board.proofs.Made.{joins, joins-voting}
use Rattle.board.proofs.board.making.voting.Goals as goal

pub returns : goal.returns
returns c =
    let folded : c.fold.result ≡ fold joins 0 c.args.voters.now = search rules in
    folded ∙ joins-voting c.args.voters.now c.told-voters
