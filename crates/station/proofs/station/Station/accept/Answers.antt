use Rattle.std.proofs.Common.{rules}
use Rattle.station.proofs.Taken.{accepted_more, count_small, sound_more}
use Rattle.station.proofs.station.Station.accept.Goals as goal

pub overflow_add-self : goal.overflow_add-self
overflow_add-self c = let small = count_small c.args.self.now c.args.message.now c.requires in search rules

pub invariant_of-self : goal.invariant_of-self
invariant_of-self c =
    record {
      posts_fit = c.args.self.now.posts_fit;
      waves_told = c.args.self.now.waves_told;
      accepted_told =
          accepted_more c.args.self.now c.args.message.now c.requires c.push.new.self c.push.ensures.places c.push.ensures.used;
      released_told = c.args.self.now.released_told;
      sound = sound_more c.args.self.now c.args.message.now c.requires c.push.new.self c.push.ensures.places c.push.ensures.used;
    }
