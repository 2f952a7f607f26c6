-- What a write passes, and that the message it makes fits. Assumes nothing.
use Rattle.std.proofs.Common.{◌≡◌, ℕ, zero, suc, ◌<◌, ◌≤◌, true, false, ◌&&◌, leb, List, [], ◌∷◌, length, get_or, is_some, Some, None, Ok, sym, refl, ap, ◌∙◌, ⊎_elim, arith}
use Rattle.std.proofs.lemmas.Grind.{common_steps}
use Rattle.std.proofs.lemmas.List.FromFn.{get_or-map-range_with_len, length-map-range_with_len}
use Rattle.std.proofs.lemmas.List.{get_or-drop, get_or_past, length-drop}
use Rattle.std.proofs.lemmas.Bool.{and_from, cases_Bool, cases_lt, le-leb, true≢false}
use Rattle.std.proofs.lemmas.Bool.Decides.{nat_tests}
use Rattle.board.specs.Ballots.{is_group}
use Rattle.wire.specs.Messages.{count, counts_fit, well_formed}
use Rattle.wire.specs.Words.{all_within}
use Rattle.wire.specs.declared.message.Message.{Message}
use Rattle.model.specs.Accepted.{crossed, early, tallies, tally}
use Rattle.model.specs.Calls.{may_write, next_message, write_decided}
use Rattle.model.specs.Following.{count_of}
use Rattle.model.specs.Sound.{Sound}
use Rattle.model.specs.States.{Settings, State, is_full, is_shut, known}
use Rattle.model.proofs.AnswerLaws.{crossed_decides, early_decides}
use Rattle.model.proofs.MessageFacts.{count_is, station_last}
use Rattle.model.proofs.Pushed.{tally-few}
use Rattle.model.proofs.Released.{tally-none}

-- What a write that is not refused has passed.
pub record WriteParts
    (state : State) (class : ℕ) (order note block : List ℕ) (message : Message) : Type 0 where
  pub live : is_shut state ≡ false
  pub long : length block ≡ 512
  pub may : may_write class note ≡ true
  pub room : is_full state ≡ false
  pub is : message ≡ next_message state class order

pub write-parts :
    (state : State) (class : ℕ) (order note block : List ℕ) (message : Message)
    → write_decided state class order note block ≡ Ok message → WriteParts state class order note block message
write-parts state class order note block message e = grind (arith, common_steps)

-- The sixteen tallies, by place.

pub tallies-at :
    (messages : List Message) (place : ℕ) → place < 16 → get_or (tallies messages) place 0 ≡ tally messages (suc place)
unfolding tallies
tallies-at messages place below =
    get_or-map-range_with_len (λ k. tally messages (suc k)) 0 16 place place 0 below (omega arith)

pub tallies-length : (messages : List Message) → length (tallies messages) ≡ 16
unfolding tallies
tallies-length messages = length-map-range_with_len (λ k. tally messages (suc k)) 0 16

-- numbers that lie in a range, one by one
pub within-from :
    (low high : ℕ) (numbers : List ℕ)
    → ((place : ℕ) → place < length numbers → (low ≤ get_or numbers place 0) × (get_or numbers place 0 ≤ high))
    → all_within low high numbers ≡ true
within-from low high [] each = refl
within-from low high (number ∷ numbers) each =
    let first = each 0 (omega arith) in
    and_from (leb low number && leb number high) (all_within low high numbers)
    (and_from (leb low number) (leb number high) (le-leb low number first.0) (le-leb number high first.1))
    (within-from low high numbers (λ place below. each (suc place) (omega arith)))

-- the settings of a station that is not shut
pub record Opened (settings : Settings) : Type 0 where
  pub group : is_group settings.n ≡ true
  pub n_small : settings.n ≤ 16
  pub own_first : 1 ≤ settings.own
  pub own_last : settings.own ≤ settings.n
  pub table_small : settings.table ≤ 4096

pub opened-live : (state : State) → is_shut state ≡ false → Opened state.settings
opened-live state live = grind (arith, common_steps)

-- The next message of an open station that has room.

pub record NextFits (state : State) (class : ℕ) (order : List ℕ) : Type 0 where
  pub well : well_formed state.settings.n (next_message state class order) ≡ true
  pub fresh : known state state.settings.own (suc (tally state.accepted state.settings.own)) ≡ None
  pub timely : early (known state) (next_message state class order) ≡ false
  pub straight : crossed (known state) (next_message state class order) ≡ false

module _
    (state : State) (class : ℕ) (order : List ℕ) (sound : Sound state) (live : is_shut state ≡ false)
    (fits : class ≤ 3) (room : length state.accepted < state.settings.table) where
  open_settings : Opened state.settings
  open_settings = opened-live state live

  -- a station above n has nothing accepted
  none_above : (station : ℕ) → state.settings.n < station → tally state.accepted station ≡ 0
  none_above station above =
      tally-none state.accepted station
      (λ message on same.
      let last = station_last state.settings.n message (sound.kept.each_well message on) in
      omega arith)

  tally_small : (station : ℕ) → tally state.accepted station < 4096
  tally_small station =
      let few = tally-few state.accepted station in
      let small = open_settings.table_small in
      omega arith

  tallies_small : (place : ℕ) → place < 16 → get_or (tallies state.accepted) place 0 ≤ 4096
  tallies_small place below =
      omega (arith, tallies-at state.accepted place below, tally_small (suc place))

  tallies_none :
      (place : ℕ) → state.settings.n ≤ place → place < 16 → get_or (tallies state.accepted) place 0 ≡ 0
  tallies_none place above below = tallies-at state.accepted place below ∙ none_above (suc place) (omega arith)

  tallies_fit : counts_fit state.settings.n (tallies state.accepted) ≡ true
  tallies_fit = grind (arith, common_steps, tallies-length, length-drop, and_from, within-from, tallies_small, get_or-drop, tallies_none)

  -- what it follows of a station is what is accepted of it
  next_count :
      (place : ℕ) → place < 16
      → count_of (next_message state class order) (suc place) ≡ tally state.accepted (suc place)
  next_count place below = tallies-at state.accepted place below

  counted : (station : ℕ) → count_of (next_message state class order) station ≤ tally state.accepted station
  counted = grind (arith, common_steps, next_count, tallies-length, get_or_past, cases_lt)

  own_counted :
      (station : ℕ) → 1 ≤ station → station ≤ 16
      → count (next_message state class order) station ≡ tally state.accepted station
  own_counted = grind (arith, common_steps, count_is, next_count)

  next_well : well_formed state.settings.n (next_message state class order) ≡ true
  next_well = grind (arith, common_steps, open_settings, tally_small, own_counted, tallies_fit, nat_tests)

  next_fresh : known state state.settings.own (suc (tally state.accepted state.settings.own)) ≡ None
  next_fresh = grind (arith, common_steps)

  next_timely : early (known state) (next_message state class order) ≡ false
  next_timely =
      let decides = early_decides (known state) state.settings.n (next_message state class order) next_well in
      ⊎_elim
      (λ e.
      let lack = decides.0 e in
      let few = counted lack.0 in
      let there = (sound.kept.gapless lack.0 lack.1).1 (lack.2.0, omega (arith, lack.2.1)) in
      absurd (true≢false (sym there ∙ ap is_some lack.3)))
      (λ e. e)
      (cases_Bool (early (known state) (next_message state class order)))

  -- an accepted message follows no more than what is accepted
  followed_accepted :
      (station number : ℕ) (message : Message) (third : ℕ) → known state station number ≡ Some message
      → count_of message third ≤ tally state.accepted third
  followed_accepted station number message third e =
      ⊎_elim (λ none. omega arith)
      (λ some.
      let last = count_of message third in
      let there = sound.kept.orderly.closed station number message third last e (some, omega arith) in
      ((sound.kept.gapless third last).0 there).1)
      (cases_lt (count_of message third) 1)

  next_straight : crossed (known state) (next_message state class order) ≡ false
  next_straight =
      let decides = crossed_decides (known state) state.settings.n (next_message state class order) next_well in
      ⊎_elim
      (λ e.
      let cross = decides.0 e in
      let last = count_of (next_message state class order) cross.0 in
      let few = followed_accepted cross.0 last cross.1 cross.2 cross.5 in
      absurd (fair cross.1 cross.2 cross.3 few cross.6))
      (λ e. e)
      (cases_Bool (crossed (known state) (next_message state class order)))
    where
      fair :
          (other : Message) (third : ℕ) → third ≤ 16 → count_of other third ≤ tally state.accepted third
          → count_of (next_message state class order) third < count_of other third → ⊥
      fair other zero last few more = omega arith
      fair other (suc place) last few more = omega (arith, next_count place (omega arith))

  pub next_fits : NextFits state class order
  next_fits = record { well = next_well; fresh = next_fresh; timely = next_timely; straight = next_straight }
