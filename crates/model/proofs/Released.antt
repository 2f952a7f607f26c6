-- What a release keeps: the wave of a settled board on the roll. Assumes nothing.
use Rattle.std.proofs.Common.{◌≡◌, ◌↔◌, ℕ, zero, suc, ◌+◌, ◌<◌, ◌≤◌, Bool, true, cond, eqb, leb, ◌⊎◌, List, [], ◌∷◌, ◌++◌, length, is_some, Some, None, Ok, Option, sym, refl, ap, ◌∙◌, subst, ap₂, inl, inr, ⊎_elim, arith}
use Rattle.std.proofs.lemmas.Grind.{common_steps}
use Rattle.std.proofs.lemmas.List.{length-append, length-map, map-append}
use Rattle.std.proofs.lemmas.Bool.{and_from, cases_Bool, cases_lt, eq-eqb, eqb-true, le-leb, true≢false}
use Rattle.std.proofs.lemmas.Bool.Decides.{nat_tests}
use Rattle.board.specs.Ballots.{is_group}
use Rattle.board.specs.Boards.{votes_at}
use Rattle.board.specs.Rules.{RuleMeaning}
use Rattle.board.specs.Rules as rules
use Rattle.board.specs.Sets.{has}
use Rattle.board.specs.declared.board.Board.{Board}
use Rattle.board.proofs.Digits.{has-mask}
use Rattle.board.proofs.Facts.{group-last, own_vote, voter_member, voter_place, voter_present}
use Rattle.board.proofs.Places.{one}
use Rattle.ties.specs.Ties.{TieMeaning}
use Rattle.ties.specs.Ties as ties
use Rattle.wire.specs.Words.{sum_below}
use Rattle.wire.specs.declared.message.Message.{Message}
use Rattle.model.proofs.BoardSets.{MadeOf, made_of}
use Rattle.model.specs.declared.entry.Entry.{Entry}
use Rattle.model.specs.Accepted.{accepted_as, is_named, or_else, tally}
use Rattle.model.specs.Calls.{as_entries, next_wave, wave_from}
use Rattle.model.specs.Heads as heads
use Rattle.model.specs.Heads.{board_at, head, present_set, voter_sets}
use Rattle.model.specs.Sound.{Begun, Gapless, Sound}
use Rattle.model.specs.States.{State, known, last_wave, on_roll, released, releasing}
use Rattle.model.specs.Waves.{Ascending, BeforeAll, HeadOfSource, IsWave, On, wave_of}
use Rattle.model.proofs.Followed.{some-message}
use Rattle.model.proofs.HeadLaws.{listed-message, released-fewer}
use Rattle.model.proofs.MessageFacts.{group_small, station_first, station_last}
use Rattle.model.proofs.Sorting.{Spread}
use Rattle.model.proofs.WaveLaws.{waves_are_one}

-- Two lists of messages, one after the other.

pub on_left :
    (messages others : List Message) (message : Message) → On message messages → On message (messages ++ others)
on_left [] others message on = elim on [ ]
on_left (first ∷ rest) others message (inl e) = inl e
on_left (first ∷ rest) others message (inr on) = inr (on_left rest others message on)

pub on_right :
    (messages others : List Message) (message : Message) → On message others → On message (messages ++ others)
on_right [] others message on = on
on_right (first ∷ rest) others message on = inr (on_right rest others message on)

pub on_either :
    (messages others : List Message) (message : Message) → On message (messages ++ others)
    → On message messages ⊎ On message others
on_either [] others message on = inr on
on_either (first ∷ rest) others message (inl e) = inl (inl e)
on_either (first ∷ rest) others message (inr on) =
    ⊎_elim (λ here. inl (inr here)) (λ there. inr there) (on_either rest others message on)

pub tally-append :
    (messages others : List Message) (station : ℕ)
    → tally (messages ++ others) station ≡ tally messages station + tally others station
unfolding tally
tally-append [] others station = omega arith
tally-append (first ∷ rest) others station = omega (arith, tally-append rest others station)

-- Tallies, by the messages that are on a list.

pub tally-some :
    (messages : List Message) (message : Message) → On message messages → 1 ≤ tally messages message.station
unfolding tally
tally-some [] message on = elim on [ ]
tally-some (first ∷ rest) message (inl e) = grind (arith, common_steps, one, eq-eqb)
tally-some (first ∷ rest) message (inr on) = omega (arith, tally-some rest message on)

pub some-tally :
    (messages : List Message) (station : ℕ) → 1 ≤ tally messages station
    → (message : Message) × On message messages × (message.station ≡ station)
unfolding tally
some-tally [] station some = absurd (omega arith)
some-tally (first ∷ rest) station some =
    ⊎_elim (λ same. (first, inl refl, eqb-true first.station station same))
    (λ other.
    let found = some-tally rest station (omega (arith, ap one other)) in (found.0, inr found.1, found.2))
    (cases_Bool (eqb first.station station))

pub tally-none :
    (messages : List Message) (station : ℕ)
    → ((message : Message) → On message messages → message.station ≡ station → ⊥) → tally messages station ≡ 0
tally-none messages station none = grind (arith, common_steps, some-tally, cases_lt)

-- of different stations, so at most one of each
tally_spread : (messages : List Message) (station : ℕ) → Spread messages → tally messages station ≤ 1
unfolding tally
tally_spread [] station spread = omega arith
tally_spread (first ∷ rest) station spread =
    ⊎_elim
    (λ same.
    let here = eqb-true first.station station same in
    let none = tally-none rest station (λ other on theirs. spread.0 other on (here ∙ sym theirs)) in
    omega (arith, none, ap one same))
    (λ other. omega (arith, tally_spread rest station spread.1, ap one other))
    (cases_Bool (eqb first.station station))

-- what is on a list is found under its station and number

either-found :
    (later : Option Message) (here : Bool) (first : Message) → (is_some later ≡ true) ⊎ (here ≡ true)
    → is_some (or_else later (cond here (Some first) None)) ≡ true
either-found = grind (arith, common_steps)

pub on_found :
    (messages : List Message) (message : Message) → On message messages
    → is_some (accepted_as messages message.station message.number) ≡ true
unfolding accepted_as
on_found [] message on = elim on [ ]
on_found (first ∷ rest) message (inl e) = grind (arith, common_steps, either-found, and_from, eq-eqb)
on_found (first ∷ rest) message (inr on) =
    either-found (accepted_as rest message.station message.number)
    (is_named first message.station message.number) first (inl (on_found rest message on))

found_as :
    (messages : List Message) (message : Message) (station number : ℕ) → On message messages
    → message.station ≡ station → message.number ≡ number → is_some (accepted_as messages station number) ≡ true
found_as messages message station number on s k =
    ap is_some (ap₂ (accepted_as messages) (sym s) (sym k)) ∙ on_found messages message on

-- A list of messages of stations 1 to 16 is as long as its sixteen tallies together.

sum_le : (f g : ℕ → ℕ) (n : ℕ) → ((place : ℕ) → f place ≤ g place) → sum_below n f ≤ sum_below n g
unfolding sum_below
sum_le f g zero each = omega arith
sum_le f g (suc n) each = omega (arith, sum_le f g n each, each n)

sum_add : (f g : ℕ → ℕ) (n : ℕ) → sum_below n (λ place. f place + g place) ≡ sum_below n f + sum_below n g
unfolding sum_below
sum_add f g zero = omega arith
sum_add f g (suc n) = omega (arith, sum_add f g n)

sum_none : (n : ℕ) → sum_below n (λ place. 0) ≡ 0
unfolding sum_below
sum_none zero = refl
sum_none (suc n) = omega (arith, sum_none n)

-- one for the place of a station, if it is below the bound
sum_one :
    (station n : ℕ) → 1 ≤ station
    → sum_below n (λ place. cond (eqb station (suc place)) 1 0) ≡ cond (leb station n) 1 0
unfolding sum_below
sum_one station zero first = grind (arith, nat_tests)
sum_one station (suc n) first = let below = sum_one station n first in grind (arith, nat_tests)

pub tallied :
    (messages : List Message)
    → ((message : Message) → On message messages → (1 ≤ message.station) × (message.station ≤ 16))
    → sum_below 16 (λ place. tally messages (suc place)) ≡ length messages
unfolding tally
tallied [] known-stations = sum_none 16
tallied (first ∷ rest) known-stations =
    let own = known-stations first (inl refl) in
    let below = tallied rest (λ message on. known-stations message (inr on)) in
    let here = sum_one first.station 16 own.0 in
    let all = sum_add (λ place. cond (eqb first.station (suc place)) 1 0) (λ place. tally rest (suc place)) 16 in
    omega (arith, all, here, below, ap one (le-leb first.station 16 own.1))

-- what is on the roll is accepted and well formed

module _ (state : State) (sound : Sound state) where
  on_accepted : (message : Message) → On message (on_roll state.roll) → On message state.accepted
  on_accepted message on =
      (listed-message state.accepted message.station message.number message
      (sound.begun.accepted message on)).0

  member_accepted :
      (message : Message) → On message state.accepted → (1 ≤ message.station) × (message.station ≤ 16)
  member_accepted message on =
      let well = sound.kept.each_well message on in
      let small = group_small state.settings.n message well in
      let last = station_last state.settings.n message well in
      (station_first state.settings.n message well, omega arith)

  -- the roll is no longer than the list of the accepted
  pub roll_room : length state.roll ≤ length state.accepted
  roll_room =
      let accepted = tallied state.accepted member_accepted in
      let out = tallied (on_roll state.roll) (λ message on. member_accepted message (on_accepted message on)) in
      let long = length-map state.roll (λ entry. entry.message) in
      let fewer =
      sum_le (λ place. released state (suc place)) (λ place. tally state.accepted (suc place)) 16
      (λ place. released-fewer state sound (suc place)) in
      omega arith

-- One message more of some stations, each under the next number: the numbers stay without gaps.

module _
    (messages more : List Message) (gapless : Gapless messages)
    (next : (message : Message) → On message more → message.number ≡ suc (tally messages message.station))
    (few : (station : ℕ) → tally more station ≤ 1) where
  -- what is found is counted
  found_counted :
      (station number : ℕ) → is_some (accepted_as (messages ++ more) station number) ≡ true
      → (1 ≤ number) × (number ≤ tally (messages ++ more) station)
  found_counted station number e =
      let found = some-message (accepted_as (messages ++ more) station number) e in
      let listed = listed-message (messages ++ more) station number found.0 found.1 in
      let long = tally-append messages more station in
      ⊎_elim
      (λ old.
      let there = found_as messages found.0 station number old listed.1 listed.2 in
      let range = (gapless station number).0 there in
      (range.0, omega (arith, range.1)))
      (λ new.
      let at = next found.0 new in
      let old = ap (tally messages) listed.1 in
      let some = tally-some more found.0 new in
      let here = ap (tally more) listed.1 in
      (omega (arith, listed.2), omega (arith, listed.2)))
      (on_either messages more found.0 listed.0)

  -- what is counted is found
  counted_found :
      (station number : ℕ) → 1 ≤ number → number ≤ tally (messages ++ more) station
      → is_some (accepted_as (messages ++ more) station number) ≡ true
  counted_found station number first last =
      let long = tally-append messages more station in
      let one_more = few station in
      ⊎_elim
      (λ new.
      let found = some-tally more station (omega arith) in
      let at = next found.0 found.1 in
      let old = ap (tally messages) found.2 in
      let on = on_right messages more found.0 found.1 in
      found_as (messages ++ more) found.0 station number on found.2 (omega arith))
      (λ low.
      let there = (gapless station number).1 (first, low) in
      let found = some-message (accepted_as messages station number) there in
      let listed = listed-message messages station number found.0 found.1 in
      let on = on_left messages more found.0 listed.0 in
      found_as (messages ++ more) found.0 station number on listed.1 listed.2)
      (cases_lt (tally messages station) number)

  pub gapless_append : Gapless (messages ++ more)
  gapless_append station number =
      (found_counted station number, (λ range. counted_found station number range.0 range.1))

-- Entries of a wave.

on_entries : (wave : ℕ) (messages : List Message) → on_roll (as_entries wave messages) ≡ messages
on_entries wave [] = refl
on_entries wave (first ∷ rest) = ap (λ others. first ∷ others) (on_entries wave rest)

length-entries : (wave : ℕ) (messages : List Message) → length (as_entries wave messages) ≡ length messages
length-entries wave [] = refl
length-entries wave (first ∷ rest) = ap suc (length-entries wave rest)

roll-more : (roll wave : List Entry) → on_roll (roll ++ wave) ≡ on_roll roll ++ on_roll wave
roll-more roll wave = map-append (λ entry. entry.message) roll wave

last_of : (wave : ℕ) (first : Message) (messages : List Message) → last_wave (as_entries wave (first ∷ messages)) ≡ wave
last_of wave first [] = refl
last_of wave first (next ∷ messages) = last_of wave next messages

last-append :
    (roll : List Entry) (first : Entry) (wave : List Entry)
    → last_wave (roll ++ first ∷ wave) ≡ last_wave (first ∷ wave)
last-append [] first wave = refl
last-append (entry ∷ []) first wave = refl
last-append (entry ∷ next ∷ roll) first wave = last-append (next ∷ roll) first wave

-- the last wave of a roll that a wave was put on
pub last_more :
    (roll : List Entry) (wave : ℕ) (messages : List Message) → 1 ≤ length messages
    → last_wave (roll ++ as_entries wave messages) ≡ wave
last_more roll wave [] some = absurd (omega arith)
last_more roll wave (first ∷ messages) some =
    last-append roll (record { wave = wave; message = first }) (as_entries wave messages) ∙ last_of wave first messages

pub on_some : (messages : List Message) (message : Message) → On message messages → 1 ≤ length messages
on_some = grind (arith, common_steps)

-- an ascending list has no two messages of one station

before-apart :
    (order : TieMeaning) (wave : ℕ) (message : Message) (messages : List Message) → ties.Lawful order
    → BeforeAll order wave message messages
    → (other : Message) → On other messages → message.station ≡ other.station → ⊥
before-apart order wave message [] lawful before other on same = on
before-apart order wave message (first ∷ rest) lawful before other (inl e) same = grind (arith, common_steps, true≢false)
before-apart order wave message (first ∷ rest) lawful before other (inr on) same =
    before-apart order wave message rest lawful before.1 other on same

ascending_spread :
    (order : TieMeaning) (wave : ℕ) (messages : List Message) → ties.Lawful order → Ascending order wave messages
    → Spread messages
ascending_spread order wave [] lawful ascending = tt
ascending_spread order wave (first ∷ rest) lawful ascending =
    (before-apart order wave first rest lawful ascending.0, ascending_spread order wave rest lawful ascending.1)

-- the messages of the wave to come
abbrev pub wave_messages : State → TieMeaning → ℕ → List Message
wave_messages state order sources = wave_of order (next_wave state) (head (known state) (released state)) sources

-- A settled board.

module _
    (state : State) (rule : RuleMeaning) (order : TieMeaning) (sources : ℕ) (board : Board) (sound : Sound state)
    (lawful : rules.Lawful rule) (orderly : ties.Lawful order) (group : is_group state.settings.n ≡ true)
    (order_n : order.n ≡ state.settings.n)
    (board_is : board_at state.settings.n (known state) (released state) ≡ Ok board)
    (answer : rule.answer board ≡ Some sources) where
  made :
      MadeOf state.settings.n (present_set (known state) (released state))
      (voter_sets (known state) (released state)) board
  made = made_of _ _ _ board board_is

  -- a source is a station of the group, and has a head

  source_vote : (place : ℕ) → has sources place ≡ true → votes_at board place place ≡ true
  source_vote place source = own_vote board place (lawful.sources_are_candidates board sources place answer source)

  pub source_member : (place : ℕ) → has sources place ≡ true → place < state.settings.n
  source_member place source =
      let below = voter_member board place place (source_vote place source) in omega (arith, below, made.n_is)

  pub source_head :
      (place : ℕ) → has sources place ≡ true
      → (message : Message) × (head (known state) (released state) (suc place) ≡ Some message)
  source_head place source =
      let vote = source_vote place source in
      let small = voter_place board place place vote in
      some-message (head (known state) (released state) (suc place))
      (sym (has-mask (λ k. heads.is_present (known state) (released state) (suc k)) 16 place small)
      ∙ ap (λ set. has set place) (sym made.present_is) ∙ voter_present board place place vote)

  -- a head is of its station, under the number after the released
  pub head_named :
      (station : ℕ) (message : Message) → head (known state) (released state) station ≡ Some message
      → (message.station ≡ station) × (message.number ≡ suc (released state station))
  head_named station message e = sound.kept.orderly.named station (suc (released state station)) message e

  pub wave_is :
      IsWave order (next_wave state) (head (known state) (released state)) sources
      (wave_messages state order sources)
  wave_is =
      let last = group-last board in
      let size = made.n_is in
      (waves_are_one order (next_wave state) (head (known state) (released state)) sources orderly
      (omega arith) (omega arith) (λ station message e. (head_named station message e).0)
      (λ place source. let below = source_member place source in omega arith)).0

  -- the wave has some head

  pub wave_members :
      (message : Message)
      → On message (on_roll (wave_from state order sources))
      ↔ HeadOfSource (head (known state) (released state)) sources message
  wave_members message =
      let same = on_entries (next_wave state) (wave_messages state order sources) in (
        λ on. wave_is.only_heads message (subst (On message) same on),
        λ source. subst (On message) (sym same) (wave_is.all_heads message source),
      )

  pub wave_nonempty : 1 ≤ length (wave_from state order sources)
  wave_nonempty =
      let source = lawful.some_source board sources answer in
      let found = source_head source.0 source.1 in
      let on = wave_is.all_heads found.0 (source.0, source.1, found.1) in
      let some = on_some (wave_messages state order sources) found.0 on in
      omega (arith, some, length-entries (next_wave state) (wave_messages state order sources))

  pub last_wave_more : last_wave (state.roll ++ wave_from state order sources) ≡ next_wave state
  last_wave_more =
      let long = length-entries (next_wave state) (wave_messages state order sources) in
      last_more state.roll (next_wave state) (wave_messages state order sources) (omega (arith, wave_nonempty))

  -- one message of each source, and of no other station

  wave_few : (station : ℕ) → tally (wave_messages state order sources) station ≤ 1
  wave_few station = grind (arith, common_steps, tally_spread, ascending_spread, wave_is)

  wave_tally : (place : ℕ) → tally (wave_messages state order sources) (suc place) ≡ cond (has sources place) 1 0
  wave_tally place =
      ⊎_elim
      (λ source.
      let found = source_head place source in
      let on = wave_is.all_heads found.0 (place, source, found.1) in
      let some = tally-some (wave_messages state order sources) found.0 on in
      let same = ap (tally (wave_messages state order sources)) (head_named (suc place) found.0 found.1).0 in
      let few = wave_few (suc place) in
      omega (arith, some, same, few, ap one source))
      (λ none.
      let empty =
      tally-none (wave_messages state order sources) (suc place)
      (λ message on same.
      let source = wave_is.only_heads message on in
      let named = head_named (suc source.0) message source.2 in
      let at : source.0 ≡ place = omega (arith, same, named.0) in
      true≢false (sym source.1 ∙ ap (has sources) at ∙ none)) in
      omega (arith, empty, ap one none))
      (cases_Bool (has sources place))

  -- the roll's messages with the wave's
  roll_is :
      on_roll (state.roll ++ wave_from state order sources)
      ≡ on_roll state.roll ++ wave_messages state order sources
  roll_is =
      roll-more state.roll (wave_from state order sources)
      ∙ ap (λ messages. on_roll state.roll ++ messages)
      (on_entries (next_wave state) (wave_messages state order sources))

  pub released_more :
      (place : ℕ)
      → released (releasing state (wave_from state order sources)) (suc place)
      ≡ released state (suc place) + cond (has sources place) 1 0
  released_more place = grind (arith, common_steps, roll_is, tally-append, wave_tally)

  -- a message of the wave is accepted, under the number after the released of its station

  wave_accepted :
      (message : Message) → On message (wave_messages state order sources)
      → known state message.station message.number ≡ Some message
  wave_accepted message on =
      let source = wave_is.only_heads message on in
      let named = head_named (suc source.0) message source.2 in
      ap₂ (known state) named.0 named.1 ∙ source.2

  wave_number :
      (message : Message) → On message (wave_messages state order sources)
      → message.number ≡ suc (released state message.station)
  wave_number message on =
      let source = wave_is.only_heads message on in
      let named = head_named (suc source.0) message source.2 in
      named.1 ∙ ap (λ station. suc (released state station)) (sym named.0)

  begun_more : Begun state.accepted (on_roll (state.roll ++ wave_from state order sources))
  begun_more =
      subst (Begun state.accepted) (sym roll_is) (record {
        accepted = λ message on.
            ⊎_elim (λ old. sound.begun.accepted message old) (λ new. wave_accepted message new)
            (on_either (on_roll state.roll) (wave_messages state order sources) message on);
        gapless =
            gapless_append (on_roll state.roll) (wave_messages state order sources) sound.begun.gapless
            wave_number wave_few;
      })

  pub sound_releasing : Sound (releasing state (wave_from state order sources))
  sound_releasing = grind (arith, common_steps, begun_more, length-append, last_wave_more, wave_nonempty)
