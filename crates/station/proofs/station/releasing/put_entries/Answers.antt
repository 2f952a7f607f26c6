use Rattle.std.proofs.Common.{◌∙◌, arith}
use Rattle.station.proofs.Appended.{one_written}
use Rattle.station.proofs.station.releasing.put_entries.Goals as goal

pub loop-message-preserved : goal.loop-message-preserved
loop-message-preserved c =
    record {
      places =
          c.push.ensures.places
          ∙ one_written c.args.roll.now.places.now c.loop-message.roll.places.now c.args.roll.now.used c.loop-message.roll.used
          c.args.wave c.loop-message.message-index c.args.messages.now _ c.loop-message.invariant.used c.loop-message-test.true
          (omega arith) c.loop-message.invariant.places;
      used = omega arith;
      lent = c.push.ensures.lent ∙ c.loop-message.invariant.lent;
    }
