use Rattle.std.proofs.Common.{◌∙◌, rules}
use Rattle.board.proofs.FromCalls.{set_of-calls}
use Rattle.rules.specs.LeadStations.{chosen_by}
use Rattle.rules.proofs.lead_station.leading.chosen_by.Goals as goal

pub returns : goal.returns
returns c =
    c.set_of.ensures
    ∙ set_of-calls _ _ _ (chosen_by c.args.board.now c.args.voter) c.from_fn.ensures.items (λ place given after called. search rules)
