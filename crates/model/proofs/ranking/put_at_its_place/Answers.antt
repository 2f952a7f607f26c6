use Rattle.std.proofs.Common.{◌≡◌, ◌-◌, ◌≤◌, length, take, set, sym, ap, ◌∙◌, arith}
use Rattle.std.specs.List.{insert}
use Rattle.std.proofs.lemmas.List.{length-set, length-take-le}
use Rattle.model.specs.Arrays.{place_for}
use Rattle.model.proofs.Ranked.{put_in_is, turned, turned-long}
use Rattle.model.proofs.ranking.put_at_its_place.Goals as goal

pub returns : goal.returns
returns g c =
    let all : c.args.count - 0 ≡ c.args.count = omega arith in
    let long = length-take-le c.args.count c.args.messages.now (omega arith) in
    let front = ap (λ k. length (take k c.args.messages.now)) all in
    let within : c.find_place-place.result ≤ c.args.count = omega (arith, c.find_place-place.ensures.within) in
    record {
      put =
          turned c.args.messages.now c.args.count c.find_place-place.result c.args.message.now c.rotate_right.new.self
          (omega arith) within c.rotate_right.ensures.after
          ∙ ap (λ k. insert (take c.args.count c.args.messages.now) k c.args.message.now)
          (c.find_place-place.ensures.place
          ∙ ap (λ k. place_for (g.T.TieOrder.means c.args.order.now) c.args.wave c.args.message.now (take k c.args.messages.now)) all)
          ∙ sym (put_in_is (g.T.TieOrder.means c.args.order.now) c.args.wave c.args.message.now (take c.args.count c.args.messages.now));
      places =
          turned-long (set c.args.messages.now c.args.count c.args.message.now) c.args.count c.find_place-place.result
          c.rotate_right.new.self (omega (arith, length-set c.args.messages.now c.args.count c.args.message.now)) within
          c.rotate_right.ensures.len
          ∙ length-set c.args.messages.now c.args.count c.args.message.now ∙ c.told-messages;
    }
