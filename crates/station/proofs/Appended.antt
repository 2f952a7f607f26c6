-- A station with one wave more. Assumes nothing.
use Rattle.std.proofs.Common.{◌≡◌, ℕ, suc, ◌+◌, ◌<◌, ◌≤◌, Bool, true, false, cond, List, [], ◌∷◌, ◌++◌, map, length, get_or, take, set, sym, refl, ap, ◌∙◌, subst, ap₂, add-one, arith}
use mathlib.Core.Logic.{∥∥₁_elim, ∥∥₁_map}
use native.Mathlib.Bridge.{le_prop}
use native.Mathlib.Nat.{ℕ_set}
use Rattle.std.proofs.lemmas.List.FromFn.{fill_by_all, get_or-map-range_with_len, length-map-range_with_len}
use Rattle.std.proofs.lemmas.List.{length-append, length-map, length-take-le, map-append, map_more, map_push}
use Rattle.std.proofs.lemmas.Bool.{not-false}
use Rattle.std.proofs.lemmas.Bool.Decides.{nat_tests}
use Rattle.board.specs.Ballots.{is_group}
use Rattle.board.specs.Sets.{has}
use Rattle.model.specs.Accepted.{tallies, tally}
use Rattle.model.specs.Arrays.{one_more_if, raised_counts, wave_messages}
use Rattle.model.specs.Calls.{as_entries, next_wave, wave_from}
use Rattle.model.specs.Sound.{MayRelease, Sound}
use Rattle.model.specs.States.{State, last_wave, may_open, on_roll, released, releasing}
use Rattle.model.specs.declared.entry.Entry.{Entry}
use Rattle.model.specs.declared.wave.Wave.{Wave}
use Rattle.model.proofs.Released.{last_wave_more, released_more, roll_room, sound_releasing}
use Rattle.model.proofs.Written.{opened-live}
use Rattle.wire.specs.declared.message.Message.{Message}
use Rattle.station.specs.Memory.{contents_in, holding, overwritten, state_of}
use Rattle.station.specs.Standing.{entries_of, state_of_station}
use Rattle.station.specs.declared.places.Place.{Place}
use Rattle.station.specs.declared.lent.Lent.{Lent}
use Rattle.station.specs.declared.station.Station.{Station}
use Rattle.station.proofs.Boarded.{released_small, released_told}
use Rattle.station.proofs.Held.{used-told}
use Rattle.station.proofs.Overwritten.{overwritten_long, overwritten_more, overwritten_through}
use Rattle.station.proofs.Shown.{entries-long}

-- What the wave is.

module _ (station : Station) (wave : Wave) (may : MayRelease (state_of_station station) wave.sources (entries_of station wave)) where
  abbrev state : State
  state = state_of_station station

  group : is_group state.settings.n ≡ true
  group = (opened-live state may.live).group

  -- the state with the wave on the roll
  same_next : releasing state (entries_of station wave) ≡ releasing state (wave_from state may.order wave.sources)
  same_next = ap (releasing state) may.wave_is

  pub sound_next : ∥ Sound (releasing state (entries_of station wave)) ∥₁
  sound_next =
      ∥∥₁_map station.sound
      (λ sound.
      subst Sound (sym same_next)
      (sound_releasing state may.rule may.order wave.sources may.board sound may.lawful may.orderly group may.order_n
      may.board_is may.answer))

  pub waves_next : station.waves + 1 ≡ last_wave (state.roll ++ entries_of station wave)
  waves_next =
      add-one station.waves ∙ ap suc station.waves_told
      ∙ sym (ap (λ entries. last_wave (state.roll ++ entries)) may.wave_is
      ∙ ∥∥₁_elim station.sound (ℕ_set _ _)
      (λ sound.
      last_wave_more state may.rule may.order wave.sources may.board sound may.lawful may.orderly group may.order_n
      may.board_is may.answer))

  one_more : (asked : Bool) (count : ℕ) → count ≤ 4096 → one_more_if asked count ≡ count + cond asked 1 0
  one_more true count small = omega arith
  one_more false count small = omega arith

  pub counts_next : raised_counts station.released wave.sources ≡ tallies (on_roll (state.roll ++ entries_of station wave))
  unfolding raised_counts tallies
  counts_next =
      fill_by_all (λ place. tally (on_roll (state.roll ++ entries_of station wave)) (suc place))
      (raised_counts station.released wave.sources) 16 0
      (length-map-range_with_len (λ k. one_more_if (has wave.sources k) (get_or station.released k 0)) 0 16)
      (λ place below.
      get_or-map-range_with_len (λ k. one_more_if (has wave.sources k) (get_or station.released k 0)) 0 16 place place 0 below (omega arith)
      ∙ one_more (has wave.sources place) (get_or station.released place 0) (released_small station may.live place below)
      ∙ ap (λ k. k + cond (has wave.sources place) 1 0) (released_told station place below)
      ∙ sym (ap (λ next. released next (suc place)) same_next
      ∙ ∥∥₁_elim station.sound (ℕ_set _ _)
      (λ sound.
      released_more state may.rule may.order wave.sources may.board sound may.lawful may.orderly group may.order_n
      may.board_is may.answer place)))

  -- how long it is, and that there is room

  pub entries_as_long : length (entries_of station wave) ≡ length (wave_messages wave)
  entries_as_long = length-map (wave_messages wave) (λ message. record { wave = next_wave state; message = message })

  pub wave_long : (number : ℕ) → wave.count ≤ 16 → length wave.messages ≡ 16 → length (as_entries number (wave_messages wave)) ≡ wave.count
  wave_long number few sixteen =
      length-map (wave_messages wave) (λ message. record { wave = number; message = message })
      ∙ length-take-le wave.count wave.messages (omega arith)

  one_length : length station.table.places.now ≡ length station.roll.places.now
  one_length = let lawful = not-false (may_open state.settings) may.live in grind (arith, nat_tests)

  pub wave_room : station.roll.used + length (wave_messages wave) ≤ length station.roll.places.now
  wave_room =
      ∥∥₁_elim sound_next le_prop
      (λ sound.
      let enough = roll_room (releasing state (entries_of station wave)) sound in
      let parts = length-append state.roll (entries_of station wave) in
      let before = entries-long station.roll.places.now station.roll.used station.roll.fits in
      let more = entries_as_long in
      let used = used-told station in
      let fits = station.table.fits in
      let same = one_length in
      omega arith)

-- A roll whose free part begins with the entries.

back : (entries : List Entry) → map (λ at. at.content) (map holding entries) ≡ entries
back [] = refl
back (first ∷ rest) = ap (λ others. first ∷ others) (back rest)

module _ (station : Station) (wave : Wave) (may : MayRelease (state_of_station station) wave.sources (entries_of station wave))
    (roll : Lent Entry)
    (written : roll.places.now ≡ overwritten station.roll.places.now station.roll.used (map holding (entries_of station wave)))
    (used : roll.used ≡ station.roll.used + length (wave_messages wave)) where
  long : length (map holding (entries_of station wave)) ≡ length (wave_messages wave)
  long = length-map (entries_of station wave) holding ∙ entries_as_long station wave may

  pub roll_next : contents_in roll.used roll.places.now ≡ (state_of_station station).roll ++ entries_of station wave
  roll_next =
      ap₂ contents_in used written
      ∙ ap (map (λ at. at.content))
      (overwritten_through station.roll.places.now station.roll.used (map holding (entries_of station wave)) (length (wave_messages wave))
      long station.roll.fits)
      ∙ map-append (λ at. at.content) (take station.roll.used station.roll.places.now) (map holding (entries_of station wave))
      ∙ ap (λ more. (state_of_station station).roll ++ more) (back (entries_of station wave))

  -- the station then stands for the state with the wave on the roll
  pub state_next :
      state_of station.n station.own station.table.places.now station.table.used roll.places.now roll.used station.posted
      ≡ releasing (state_of_station station) (entries_of station wave)
  state_next = λ i.
      record {
        settings = record { n = station.n; own = station.own; table = length station.table.places.now; roll = kept i };
        accepted = (state_of_station station).accepted;
        roll = roll_next i;
        posted = station.posted;
      }
    where
      kept : length roll.places.now ≡ length station.roll.places.now
      kept =
          let room = wave_room station wave may in
          let many = long in
          ap length written
          ∙ overwritten_long station.roll.places.now station.roll.used (map holding (entries_of station wave)) (omega arith)

-- Writing the entries one by one.

-- the places that hold the first entries of a wave
abbrev pub places_of : ℕ → ℕ → List Message → List (Place Entry)
places_of number count messages = map holding (as_entries number (take count messages))

pub places-long : (number count : ℕ) (messages : List Message) → count ≤ length messages → length (places_of number count messages) ≡ count
places-long number count messages fits =
    length-map (as_entries number (take count messages)) holding
    ∙ length-map (take count messages) (λ message. record { wave = number; message = message })
    ∙ length-take-le count messages fits

pub one_written :
    (memory after : List (Place Entry)) (rolled at number place : ℕ) (messages : List Message) (d : Message)
    → at ≡ rolled + place → place < length messages → rolled + place < length memory
    → after ≡ overwritten memory rolled (places_of number place messages)
    → set after at (holding (record { wave = number; message = get_or messages place d }))
    ≡ overwritten memory rolled (places_of number (place + 1) messages)
one_written memory after rolled at number place messages d is below room so_far =
    let long = places-long number place messages (omega arith) in
    let x = holding (record { wave = number; message = get_or messages place d }) in
    ap₂ (λ m k. set m k x) so_far (is ∙ ap (λ k. rolled + k) (sym long))
    ∙ overwritten_more memory rolled (places_of number place messages) x (omega arith)
    ∙ ap (overwritten memory rolled) (sym more)
  where
    more :
        places_of number (place + 1) messages
        ≡ places_of number place messages ++ holding (record { wave = number; message = get_or messages place d }) ∷ []
    more =
        ap (map holding)
        (map_more (λ message. record { wave = number; message = message }) messages place d below)
        ∙ map_push holding (as_entries number (take place messages)) (record { wave = number; message = get_or messages place d })
