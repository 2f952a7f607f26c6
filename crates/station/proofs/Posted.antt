-- A station with one entry more posted. Assumes nothing.
use Rattle.std.proofs.Common.{◌≡◌, suc, ◌+◌, ◌<◌, ◌≤◌, Bool, true, false, cond, Ok, Err, sym, ap, ◌∙◌, subst, ⊎_elim, add-one, arith}
use mathlib.Core.Logic.{∥∥₁_map}
use Rattle.std.proofs.lemmas.Option.{slice_get_past}
use Rattle.std.proofs.lemmas.Bool.{cases_lt}
use Rattle.model.specs.Calls.{post_decided, to_post}
use Rattle.model.specs.Sound.{Sound}
use Rattle.model.specs.States.{entry_at, is_shut, posting}
use Rattle.model.specs.declared.entry.Entry.{Entry}
use Rattle.model.proofs.Decided.{never-taken}
use Rattle.model.proofs.Keeping.{sound-posting}
use Rattle.wire.specs.declared.fault.Fault.TheVariants.{NothingToPost, Setting}
use Rattle.station.specs.Memory.{state_of}
use Rattle.station.specs.Standing.{state_of_station}
use Rattle.station.specs.declared.station.Station.{Station}
use Rattle.station.proofs.Shown.{entries-long}

module _ (station : Station) where
  pub state_posted :
      state_of station.n station.own station.table.places.now station.table.used station.roll.places.now station.roll.used (station.posted + 1)
      ≡ posting (state_of_station station)
  state_posted = λ i.
      record {
        settings = (state_of_station station).settings;
        accepted = (state_of_station station).accepted;
        roll = (state_of_station station).roll;
        posted = add-one station.posted i;
      }

  pub sound_posted :
      ∥ Sound (state_of station.n station.own station.table.places.now station.table.used station.roll.places.now station.roll.used (station.posted + 1)) ∥₁
  sound_posted = ∥∥₁_map station.sound (λ sound. subst Sound (sym state_posted) (sound-posting (state_of_station station) sound))

  -- an entry is found to post only where one is left
  pub some_left : (entry : Entry) → Ok entry ≡ post_decided (state_of_station station) → station.posted < station.roll.used
  some_left entry found =
      ⊎_elim (λ below. below) (λ past. absurd (none past (is_shut (state_of_station station)) found)) (cases_lt station.posted station.roll.used)
    where
      none :
          station.roll.used ≤ station.posted → (shut : Bool)
          → Ok entry ≡ cond shut (Err Setting) (to_post (entry_at (state_of_station station).roll (suc station.posted))) → ⊥
      none past true e = never-taken Setting entry (sym e)
      none past false e =
          let long = entries-long station.roll.places.now station.roll.used station.roll.fits in
          let beyond = ap to_post (slice_get_past (state_of_station station).roll station.posted (omega arith)) in
          never-taken NothingToPost entry (sym (e ∙ beyond))
