use Rattle.std.proofs.Common.{◌+◌, suc, length, map, sym, ap, ◌∙◌, subst, add-one, arith}
use Rattle.model.specs.Accepted.{tallies}
use Rattle.model.specs.Arrays.{wave_messages}
use Rattle.model.specs.Calls.{as_entries}
use Rattle.model.specs.Sound.{Sound}
use Rattle.model.specs.States.{last_wave, on_roll}
use Rattle.station.specs.Memory.{holding, overwritten}
use Rattle.station.proofs.Appended.{counts_next, roll_next, sound_next, state_next, wave_room, waves_next}
use Rattle.station.proofs.station.Station.append.Goals as goal

pub put_entries-requires : goal.put_entries-requires
put_entries-requires c = wave_room c.args.self.now c.args.wave.now c.requires.may

pub invariant_of-self : goal.invariant_of-self
invariant_of-self c =
    let station = c.args.self.now in
    let wave = c.args.wave.now in
    let written =
    c.put_entries.ensures.places
    ∙ ap (λ k. overwritten station.roll.places.now station.roll.used (map holding (as_entries k (wave_messages wave))))
    (add-one station.waves ∙ ap suc station.waves_told) in
    let used = c.put_entries.ensures.used in
    let roll = roll_next station wave c.requires.may c.put_entries.new.roll written used in
    let posts = station.posts_fit in
    record {
      posts_fit = omega arith;
      waves_told = waves_next station wave c.requires.may ∙ ap last_wave (sym roll);
      accepted_told = station.accepted_told;
      released_told =
          c.with_one_more-self.ensures ∙ counts_next station wave c.requires.may ∙ sym (ap (λ entries. tallies (on_roll entries)) roll);
      sound =
          subst (λ state. ∥ Sound state ∥₁) (sym (state_next station wave c.requires.may c.put_entries.new.roll written used))
          (sound_next station wave c.requires.may);
    }

pub returns-clause-next : goal.returns-clause-next
returns-clause-next c =
    let station = c.args.self.now in
    let wave = c.args.wave.now in
    let written =
    c.put_entries.ensures.places
    ∙ ap (λ k. overwritten station.roll.places.now station.roll.used (map holding (as_entries k (wave_messages wave))))
    (add-one station.waves ∙ ap suc station.waves_told) in
    state_next station wave c.requires.may c.put_entries.new.roll written c.put_entries.ensures.used
