use Rattle.std.proofs.Common.{arith}
use Rattle.station.proofs.Posted.{some_left, sound_posted}
use Rattle.station.proofs.station.Station.post.Goals as goal

pub invariant_of-self : goal.invariant_of-self
invariant_of-self g c =
    let left = some_left c.args.self.now c.in_ok-entry.entry c.in_ok-entry.ensures in
    record {
      posts_fit = omega arith;
      waves_told = c.args.self.now.waves_told;
      accepted_told = c.args.self.now.accepted_told;
      released_told = c.args.self.now.released_told;
      sound = sound_posted c.args.self.now;
    }
