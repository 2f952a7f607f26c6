use Rattle.std.proofs.Common.{ap, ◌∙◌, take, rules}
use borrow.Author.Tests.{tests}
use Rattle.std.specs.Option.{option_map}
use Rattle.std.proofs.lemmas.Iterator.Adapters.{YieldsList-from_rev_slice}
use Rattle.std.proofs.lemmas.Iterator.Search.{find_from_yields_List}
use Rattle.station.proofs.Looked.{looked-up, map_twice, mapped, named}
use Rattle.station.proofs.station.Station.find.Goals as goal

pub returns : goal.returns
returns c =
    let found =
    find_from_yields_List (named c.args.station c.args.number) _ _ c.find.result c.find.ensures.ran
    (YieldsList-from_rev_slice (take c.args.self.now.table.used c.args.self.now.table.places.now) (search rules))
    (λ x b q k. search (rules, tests)) in
    mapped c.find.result c.map.result (λ x. x.now.content) c.map.ensures.cases (λ x y q. search rules)
    ∙ map_twice c.find.result (λ x. x.now) (λ place. place.content)
    ∙ ap (option_map (λ place. place.content)) found
    ∙ looked-up (take c.args.self.now.table.used c.args.self.now.table.places.now) c.args.station c.args.number
