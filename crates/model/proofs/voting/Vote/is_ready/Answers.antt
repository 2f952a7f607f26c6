use Rattle.std.proofs.Common.{not, ap, ◌∙◌}
use Rattle.model.proofs.Counts.{ready-told}
use Rattle.model.proofs.voting.Vote.is_ready.Goals as goal

pub returns : goal.returns
returns c = ap not c.exceeds.ensures ∙ ready-told c.args.self.now.released.now c.args.message.now
