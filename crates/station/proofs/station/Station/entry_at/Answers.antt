use Rattle.std.proofs.Common.{map, ap, ◌∙◌, rules}
use Rattle.model.specs.States.{entry_at}
use Rattle.station.proofs.Looked.{mapped}
use Rattle.station.proofs.Shown.{shown_there}
use Rattle.station.proofs.station.Station.entry_at.Goals as goal

pub returns : goal.returns
returns c =
    mapped c.get.result c.map.result (λ x. x.now.content) c.map.ensures.cases (λ x y q. search rules)
    ∙ shown_there c.held.result.now c.args.place c.in_ok-before.before c.get.result
    c.in_ok-before.ensures.0 c.in_ok-before.ensures.1 c.get.ensures.lookup.0 c.get.ensures.lookup.1
    ∙ ap (λ places. entry_at (map (λ place. place.content) places) c.args.place) c.held.ensures
