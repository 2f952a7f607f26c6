use Rattle.std.proofs.Common.{sym, ap, ◌∙◌, subst, arith}
use Rattle.model.specs.Accepted.{tallies}
use Rattle.model.specs.Sound.{Sound}
use Rattle.model.specs.States.{last_wave, on_roll}
use Rattle.model.proofs.Keeping.{sound-opened}
use Rattle.station.specs.Memory.{contents_in, settings_of}
use Rattle.station.proofs.Held.{tallies-none, opened_told}
use Rattle.station.proofs.station.Station.new.Goals as goal

pub invariant_of-result : goal.invariant_of-result
invariant_of-result c =
    let table = c.new.ensures in
    let roll = c.new-2.ensures in
    record {
      posts_fit = omega arith;
      waves_told = ap (λ k. last_wave (contents_in k c.new-2.result.places.now)) (sym roll.used);
      accepted_told = tallies-none ∙ ap (λ k. tallies (contents_in k c.new.result.places.now)) (sym table.used);
      released_told = tallies-none ∙ ap (λ k. tallies (on_roll (contents_in k c.new-2.result.places.now))) (sym roll.used);
      sound =
          ∣ subst Sound (sym (opened_told c.args.n c.args.own c.new.result c.new-2.result table.used roll.used))
          (sound-opened (settings_of c.args.n c.args.own c.new.result.places.now c.new-2.result.places.now)) ∣₁;
    }
