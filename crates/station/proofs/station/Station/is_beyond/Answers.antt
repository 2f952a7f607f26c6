use Rattle.std.proofs.Common.{◌≤◌, leb, ltb, ap, ◌∙◌, rules}
use borrow.Author.Tests.{tests}
use Rattle.std.proofs.lemmas.Bool.{le-leb}
use Rattle.model.specs.Accepted.{tally}
use Rattle.station.specs.Standing.{state_of_station}
use Rattle.station.proofs.Held.{both_hold, count_of_station}
use Rattle.station.proofs.station.Station.is_beyond.Goals as goal

pub returns-then-contains : goal.returns-then-contains
returns-then-contains c =
    let first : 1 ≤ c.args.station = search (rules, tests) in
    let last : c.args.station ≤ 16 = search (rules, tests) in
    ap (λ count. ltb count c.args.number) (count_of_station c.args.self.now c.args.station first last)
    ∙ both_hold (leb 1 c.args.station) (leb c.args.station 16)
    (ltb (tally (state_of_station c.args.self.now).accepted c.args.station) c.args.number)
    (le-leb 1 c.args.station first) (le-leb c.args.station 16 last)
