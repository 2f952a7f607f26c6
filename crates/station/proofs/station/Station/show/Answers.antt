use Rattle.std.proofs.Common.{◌≡◌, rules}
use Rattle.model.specs.Calls.{show_decided}
use Rattle.station.specs.Standing.{state_of_station}
use Rattle.station.proofs.Shown.{show_answered}
use Rattle.station.proofs.station.Station.show.Goals as goal

pub returns-in_err-open-clause-answers : goal.returns-in_err-open-clause-answers
returns-in_err-open-clause-answers c =
    let told : c.from_residual.result ≡ show_decided (state_of_station c.args.self.now) c.args.place = search rules in
    show_answered c.args.self.now c.args.place c.from_residual.result told

pub returns-clause-answers : goal.returns-clause-answers
returns-clause-answers c =
    let told : c.ok_or.result ≡ show_decided (state_of_station c.args.self.now) c.args.place = search rules in
    show_answered c.args.self.now c.args.place c.ok_or.result told
