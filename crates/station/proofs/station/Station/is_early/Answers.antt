use Rattle.std.proofs.Common.{◌∙◌}
use Rattle.station.specs.Standing.{state_of_station}
use Rattle.station.proofs.Held.{counts-early, early-held}
use Rattle.station.proofs.station.Station.is_early.Goals as goal

pub returns : goal.returns
returns c =
    c.exceeds.ensures ∙ counts-early c.args.self.now c.args.message.now
    ∙ early-held (state_of_station c.args.self.now) c.args.message.now c.args.self.now.sound
