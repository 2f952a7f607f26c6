-- What a write answers and leaves, from what it drafted. Assumes nothing.
use Rattle.std.proofs.Common.{◌≡◌, ℕ, suc, ◌+◌, ◌-◌, ◌<◌, ◌≤◌, true, false, eqb, leb, List, length, get_or, is_some, Ok, Err, Result, sym, ap, ◌∙◌, subst, add-one, arith}
use mathlib.Core.Bool.{Bool-set}
use mathlib.Core.Logic.{∥∥₁_elim}
use Rattle.std.proofs.lemmas.Bool.{and_from, and_parts, cond-true, eq-eqb, leb-false, leb-true}
use Rattle.model.specs.Accepted.{crossed, early, tally}
use Rattle.model.specs.Calls.{next_message, write_decided, write_of}
use Rattle.model.specs.Meanings.{WriteAnswers}
use Rattle.model.specs.Sound.{MayAccept}
use Rattle.model.specs.States.{State, is_shut, known}
use Rattle.model.proofs.Pushed.{tally-few}
use Rattle.model.proofs.WriteAnswers.{write-answers}
use Rattle.model.proofs.Written.{next_fits, opened-live, write-parts}
use Rattle.wire.specs.Format.{filling, fitting, noted}
use Rattle.wire.specs.Messages.{well_formed}
use Rattle.wire.specs.declared.fault.Fault.{Fault}
use Rattle.wire.specs.declared.fault.Fault.TheVariants.{Layout, Length}
use Rattle.wire.specs.declared.message.Message.{Message}
use Rattle.station.specs.Standing.{state_of_station}
use Rattle.station.specs.declared.station.Station.{Station}
use Rattle.station.proofs.Held.{count-told, none_from, used-told}
use Rattle.station.proofs.Taken.{open_small}

-- The draft.

module _ (station : Station) (live : is_shut (state_of_station station) ≡ false) where
  abbrev state : State
  state = state_of_station station

  pub own_first : 1 ≤ station.own
  own_first = (opened-live state live).own_first

  pub own_last : station.own ≤ 16
  own_last = let own = opened-live state live in omega (arith, own.own_last, own.n_small)

  own_place : station.own - 1 < 16
  own_place = let own = opened-live state live in omega (arith, own.own_first, own.own_last, own.n_small)

  pub own_small : get_or station.accepted (station.own - 1) 0 ≤ 4096
  own_small =
      let told = count-told station.accepted state.accepted (station.own - 1) station.accepted_told own_place in
      let below = tally-few state.accepted (suc (station.own - 1)) in
      let used = used-told station in
      let fits = station.table.fits in
      let small = open_small state live in
      omega arith

  -- the kept counts are the after-list that it has
  pub drafted :
      (class : ℕ) (order : List ℕ)
      → record {
        station = station.own;
        number = get_or station.accepted (station.own - 1) 0 + 1;
        after = station.accepted;
        class = class;
        order = order;
      }
      ≡ next_message state class order
  drafted class order = λ i.
      record { station = station.own; number = number i; after = station.accepted_told i; class = class; order = order }
    where
      own : suc (station.own - 1) ≡ station.own
      own = let first = own_first in omega arith

      number : get_or station.accepted (station.own - 1) 0 + 1 ≡ suc (tally state.accepted station.own)
      number =
          add-one (get_or station.accepted (station.own - 1) 0)
          ∙ ap suc (count-told station.accepted state.accepted (station.own - 1) station.accepted_told own_place
          ∙ ap (tally state.accepted) own)

-- A drafted message may be accepted, and fits the block.

module _ (station : Station) (class : ℕ) (order note block : List ℕ) (message : Message)
    (decided : write_decided (state_of_station station) class order note block ≡ Ok message) where
  class_fits : class ≤ 3
  class_fits =
      leb-true class 3
      (and_parts (leb class 3) (noted note) (write-parts (state_of_station station) class order note block message decided).may).0

  pub may_write_it : MayAccept (state_of_station station) message
  may_write_it =
      let parts = write-parts (state_of_station station) class order note block message decided in
      let state = state_of_station station in
      let next = next_message state class order in
      let room = leb-false state.settings.table (length state.accepted) parts.room in
      subst (MayAccept state) (sym parts.is)
      (record {
        live = parts.live;
        group =
            ∥∥₁_elim station.sound (Bool-set (well_formed state.settings.n next) true)
            (λ sound. (next_fits state class order sound parts.live class_fits room).well);
        fresh =
            none_from (known state next.station next.number)
            (∥∥₁_elim station.sound (Bool-set (is_some (known state next.station next.number)) false)
            (λ sound. ap is_some (next_fits state class order sound parts.live class_fits room).fresh));
        timely =
            ∥∥₁_elim station.sound (Bool-set (early (known state) next) false)
            (λ sound. (next_fits state class order sound parts.live class_fits room).timely);
        straight =
            ∥∥₁_elim station.sound (Bool-set (crossed (known state) next) false)
            (λ sound. (next_fits state class order sound parts.live class_fits room).straight);
        room = room;
      })

  fits : fitting station.n message note ≡ true
  fits =
      let parts = write-parts (state_of_station station) class order note block message decided in
      and_from (well_formed station.n message) (noted note) may_write_it.group
      (and_parts (leb class 3) (noted note) parts.may).1

  long : eqb (length block) 512 ≡ true
  long = eq-eqb (length block) 512 (write-parts (state_of_station station) class order note block message decided).long

  -- the filling is not refused, and gives its block
  pub filling_done : filling station.n message note block ≡ Ok tt
  filling_done =
      cond-true (eqb (length block) 512) _ (Err Length) long ∙ cond-true (fitting station.n message note) (Ok tt) (Err Layout) fits

-- the answers of write come exactly when they should
pub write_answered :
    (station : Station) (class : ℕ) (order note block : List ℕ) (r : Result (Unit {0}) Fault)
    → r ≡ (write_of (state_of_station station) class order note block).answer
    → WriteAnswers (state_of_station station) class note block r
write_answered station class order note block r told =
    subst (WriteAnswers (state_of_station station) class note block) (sym told)
    (write-answers (state_of_station station) class order note block)
