use Rattle.std.proofs.Common.{refl, rules}
use Rattle.std.proofs.lemmas.Iterator.{YieldsList-from_range}
use Rattle.board.proofs.Asked.{any-any}
use Rattle.model.specs.Accepted.{is_crossed_by}
use Rattle.model.specs.States.{known}
use Rattle.station.specs.Standing.{state_of_station}
use Rattle.station.proofs.station.Station.is_crossed.Goals as goal

pub returns : goal.returns
returns c =
    any-any _ (is_crossed_by (known (state_of_station c.args.self.now)) c.args.message.now) c.any.result c.any.ensures.ran
    (YieldsList-from_range 0 16 16 refl refl) (λ place given after called. search rules)
