use Rattle.std.proofs.Common.{rules}
use Rattle.station.proofs.Drafted.{drafted, own_small}
use Rattle.station.proofs.station.open.Open.next_message.Goals as goal

pub overflow_add-result : goal.overflow_add-result
overflow_add-result c = let small = own_small c.args.self.now.station.now c.args.self.now.live in search rules

pub returns : goal.returns
returns c = drafted c.args.self.now.station.now c.args.self.now.live c.args.class c.args.order.now
