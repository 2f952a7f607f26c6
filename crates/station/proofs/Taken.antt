-- A station with one message more. Assumes nothing.
use Rattle.std.proofs.Common.{◌≡◌, ℕ, suc, ◌+◌, ◌-◌, ◌<◌, ◌≤◌, Bool, true, false, cond, List, [], ◌∷◌, ◌++◌, map, length, get_or, take, set, Some, None, Ok, Err, Option, Result, sym, refl, ap, ◌∙◌, subst, ap₂, ⊎_elim, arith}
use mathlib.Core.Logic.{∥∥₁_map}
use Rattle.std.proofs.lemmas.List.FromFn.{fill_by_all, length-map-range_with_len}
use Rattle.std.proofs.lemmas.List.{get_or-set_other, get_or-set_same, length-set, map_push, take_more_set}
use Rattle.std.proofs.lemmas.Bool.{cases_eq, eq-eqb, ne_eqb, not-false}
use Rattle.std.proofs.lemmas.Bool.Decides.{nat_tests}
use Rattle.board.proofs.Places.{one}
use Rattle.model.specs.Accepted.{crossed, early, tallies, tally}
use Rattle.model.specs.Following.{alike}
use Rattle.model.specs.Calls.{carried_message, offer_decided, take_carried, take_decided, taken}
use Rattle.model.specs.Sound.{MayAccept, Sound}
use Rattle.model.specs.States.{State, accepting, is_full, is_shut, known, may_open}
use Rattle.model.proofs.Decided.{carried-is, never-taken, passed}
use Rattle.model.proofs.Keeping.{sound-accepting}
use Rattle.model.proofs.MessageFacts.{group_small, station_first, station_last}
use Rattle.model.proofs.Pushed.{tally-few, tally-push}
use Rattle.wire.specs.declared.fault.Fault.{Fault}
use Rattle.wire.specs.declared.fault.Fault.TheVariants.{Clash, Crossed, Early, Full, Repeat}
use Rattle.wire.specs.declared.message.Message.{Message}
use Rattle.station.specs.Memory.{holding, contents_in, state_of}
use Rattle.station.specs.Standing.{state_of_station}
use Rattle.station.specs.declared.lent.Lent.{Lent}
use Rattle.station.specs.declared.station.Station.{Station}
use Rattle.station.proofs.Held.{count-told, used-told}

-- an open station has at most 4,096 places
pub open_small : (state : State) → is_shut state ≡ false → state.settings.table ≤ 4096
open_small state live = let lawful = not-false (may_open state.settings) live in grind (arith, nat_tests)

-- one count raised is the count of one message more
pub tallies-more :
    (numbers : List ℕ) (messages : List Message) (message : Message) → numbers ≡ tallies messages
    → 1 ≤ message.station → message.station ≤ 16
    → set numbers (message.station - 1) (get_or numbers (message.station - 1) 0 + 1) ≡ tallies (messages ++ message ∷ [])
unfolding tallies
tallies-more numbers messages message told first last =
    fill_by_all (λ place. tally (messages ++ message ∷ []) (suc place)) raised 16 0
    (length-set numbers (message.station - 1) (get_or numbers (message.station - 1) 0 + 1) ∙ long) at
  where
    raised : List ℕ
    raised = set numbers (message.station - 1) (get_or numbers (message.station - 1) 0 + 1)

    long : length numbers ≡ 16
    long = ap length told ∙ length-map-range_with_len (λ place. tally messages (suc place)) 0 16

    at : (place : ℕ) → place < 16 → get_or raised place 0 ≡ tally (messages ++ message ∷ []) (suc place)
    at place below =
        let sixteen = long in
        ⊎_elim
        (λ same.
        let here = get_or-set_same numbers (message.station - 1) (get_or numbers (message.station - 1) 0 + 1) 0 (omega arith) in
        let old = count-told numbers messages place told below in
        let more = ap one (eq-eqb message.station (suc place) (omega arith)) in
        let same_count = ap (λ k. get_or numbers k 0) same in
        let raised-there = ap (λ k. get_or raised k 0) same in
        omega (arith, tally-push messages message (suc place)))
        (λ apart.
        let here = get_or-set_other numbers (message.station - 1) place (get_or numbers (message.station - 1) 0 + 1) 0 apart in
        let old = count-told numbers messages place told below in
        let more = ap one (ne_eqb message.station (suc place) (λ e. apart (omega arith))) in
        omega (arith, tally-push messages message (suc place)))
        (cases_eq place (message.station - 1))

module _ (station : Station) (message : Message) where
  abbrev state : State
  state = state_of_station station

  pub room_left : MayAccept state message → station.table.used < length station.table.places.now
  room_left may = let room = may.room in let used = used-told station in omega arith

  -- the count of its station can be raised
  pub count_small : MayAccept state message → get_or station.accepted (message.station - 1) 0 ≤ 4096
  count_small may =
      let few = group_small station.n message may.group in
      let first = station_first station.n message may.group in
      let last = station_last station.n message may.group in
      let told = count-told station.accepted state.accepted (message.station - 1) station.accepted_told (omega arith) in
      let below = tally-few state.accepted (suc (message.station - 1)) in
      let used = used-told station in
      let fits = station.table.fits in
      let small = open_small state may.live in
      omega arith

-- The table with the message in its next place.

module _ (station : Station) (message : Message) (table : Lent Message)
    (places : table.places.now ≡ set station.table.places.now station.table.used (holding message))
    (used : table.used ≡ station.table.used + 1) where
  messages_more :
      station.table.used < length station.table.places.now
      → contents_in table.used table.places.now ≡ (state_of_station station).accepted ++ message ∷ []
  messages_more room =
      ap₂ contents_in used places
      ∙ ap (map (λ place. place.content))
      (take_more_set station.table.places.now station.table.used (holding message) room)
      ∙ map_push (λ place. place.content) (take station.table.used station.table.places.now) (holding message)

  -- the station stands for the state with the message accepted
  pub state_more :
      station.table.used < length station.table.places.now
      → state_of station.n station.own table.places.now table.used station.roll.places.now station.roll.used station.posted
      ≡ accepting (state_of_station station) message
  state_more room = λ i.
      record {
        settings =
            record {
              n = station.n;
              own = station.own;
              table = (ap length places ∙ length-set station.table.places.now station.table.used (holding message)) i;
              roll = length station.roll.places.now;
            };
        accepted = messages_more room i;
        roll = (state_of_station station).roll;
        posted = station.posted;
      }

module _ (station : Station) (message : Message) (may : MayAccept (state_of_station station) message) (table : Lent Message)
    (places : table.places.now ≡ set station.table.places.now station.table.used (holding message))
    (used : table.used ≡ station.table.used + 1) where
  pub accepted_more :
      set station.accepted (message.station - 1) (get_or station.accepted (message.station - 1) 0 + 1)
      ≡ tallies (contents_in table.used table.places.now)
  accepted_more =
      let few = group_small station.n message may.group in
      let last = station_last station.n message may.group in
      tallies-more station.accepted (state_of_station station).accepted message station.accepted_told
      (station_first station.n message may.group) (omega arith)
      ∙ sym (ap tallies (messages_more station message table places used (room_left station message may)))

  pub sound_more :
      ∥ Sound (state_of station.n station.own table.places.now table.used station.roll.places.now station.roll.used station.posted) ∥₁
  sound_more =
      ∥∥₁_map station.sound
      (λ sound.
      subst Sound (sym (state_more station message table places used (room_left station message may)))
      (sound-accepting (state_of_station station) message sound may.group may.fresh may.timely may.straight))

-- what is taken in is the message itself
itself : (state : State) (message result : Message) → take_decided state message ≡ Ok result → message ≡ result
itself state message result decided = found (known state message.station message.number) decided
  where
    fresh :
        (a b c : Bool) → cond a (Err Early) (cond b (Err Crossed) (cond c (Err Full) (Ok message))) ≡ Ok result
        → message ≡ result
    fresh true b c e = absurd (never-taken Early result e)
    fresh false true c e = absurd (never-taken Crossed result e)
    fresh false false true e = absurd (never-taken Full result e)
    fresh false false false e = cc

    again : (a : Bool) → cond a (Err Repeat) (Err Clash) ≡ Ok result → message ≡ result
    again true e = absurd (never-taken Repeat result e)
    again false e = absurd (never-taken Clash result e)

    found : (other : Option Message) → taken state message other ≡ Ok result → message ≡ result
    found (Some other) e = again (alike message other) e
    found None e = fresh (early (known state) message) (crossed (known state) message) (is_full state) e

-- the message of an offer that is taken in may be accepted
pub may_take :
    (state : State) (block : List ℕ) (message : Message) → offer_decided state block ≡ Ok message → MayAccept state message
may_take state block message decided = by (carried_message state block) refl decided
  where
    by : (carried : Result Message Fault) → carried_message state block ≡ carried → take_carried state carried ≡ Ok message → MayAccept state message
    by (Err fault) is e = absurd (never-taken fault message e)
    by (Ok offered) is e =
        let parts = carried-is state block offered is in
        let ok = passed state offered message e in
        subst (MayAccept state) (itself state offered message e)
        (record { live = parts.live; group = parts.group; fresh = ok.fresh; timely = ok.timely; straight = ok.straight; room = ok.room })
