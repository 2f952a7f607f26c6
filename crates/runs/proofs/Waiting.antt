-- A message that every other station follows is released after one more release than others wait with it. Assumes
-- nothing.
use Rattle.std.proofs.Common.{◌≡◌, ℕ, suc, ◌+◌, ◌<◌, ◌≤◌, Bool, true, false, cond, not, ◌&&◌, eqb, leb, ◌⊎◌, List, [], ◌∷◌, ◌++◌, is_some, Some, None, Ok, Err, Option, Result, sym, refl, ap, ◌∙◌, subst, ap₂, inl, inr, ⊎_elim, arith}
use Rattle.std.proofs.lemmas.Bool.{and_from, and_left, and_parts, and_right, cases_Bool, cases_eq, cases_lt, eqb-true, le-leb, leb-true, lt-leb, not_from_false, not_from_true, true≢false}
use Rattle.board.specs.Rules.{RuleMeaning}
use Rattle.board.specs.Rules as rules
use Rattle.ties.specs.Ties.{TieMeaning}
use Rattle.ties.specs.Ties as ties
use Rattle.wire.specs.Faults.{numbered}
use Rattle.wire.specs.Messages.{well_formed}
use Rattle.wire.specs.declared.fault.Fault.{Fault}
use Rattle.wire.specs.declared.fault.Fault.TheVariants.{Setting}
use Rattle.wire.specs.declared.message.Message.{Message}
use Rattle.model.specs.declared.entry.Entry.{Entry}
use Rattle.model.specs.Accepted.{accepted_as, is_named, tally}
use Rattle.model.specs.Calls.{next_wave, release_of, wave_from}
use Rattle.model.specs.Following.{count_of, follows}
use Rattle.model.specs.Heads.{head, is_present}
use Rattle.model.specs.States.{Settings, State, accepting, known, on_roll, released, releasing}
use Rattle.model.specs.Waves.{On, wave_of}
use Rattle.model.proofs.Followed.{followed_fewer, some-message}
use Rattle.model.proofs.HeadLaws.{listed-message}
use Rattle.model.proofs.MessageFacts.{number_first, own_count, station_first, station_last}
use Rattle.model.proofs.Pushed.{accepted_new}
use Rattle.runs.specs.Promise.{WaitingBound, how_many, is_on, waits_with}
use Rattle.runs.specs.Runs.{Call, Moment, Step, accepted_in, after, beginning, call_next, moment, one_unless_setting, release_count, releases, state_at, write, offer, release, post, show}
use Rattle.runs.proofs.Grounded.{Grounded, found-stays, grounded_at, grounded_next, own_name, roll_messages}
use Rattle.runs.proofs.Joined.{found_first, on_first, on_found, on_second, roll-joined}
use Rattle.runs.proofs.Posted.{one_roll, roll_grows}
use Rattle.runs.proofs.Reached.{Move, Settled, accepted-told, after-append, asked, move_of, settings-kept, stays, accepts, settles, carries_out}
use Rattle.runs.proofs.Settling.{Freed, board_size, nobody_absent, some_freed, wave_freed}

-- How many messages of a list pass a test.

one_le : (first second : Bool) → (first ≡ true → second ≡ true) → cond first 1 0 ≤ cond second 1 0
one_le true true into = omega arith
one_le true false into = absurd (true≢false (sym (into refl)))
one_le false true into = omega arith
one_le false false into = omega arith

fewer_pass :
    (test wider : Message → Bool) (messages : List Message)
    → ((message : Message) → test message ≡ true → wider message ≡ true)
    → how_many test messages ≤ how_many wider messages
unfolding how_many
fewer_pass test wider [] into = omega arith
fewer_pass test wider (first ∷ rest) into =
    omega (arith, one_le (test first) (wider first) (into first), fewer_pass test wider rest into)

one-fewer-passes :
    (test wider : Message → Bool) (messages : List Message)
    → ((message : Message) → test message ≡ true → wider message ≡ true)
    → (lost : Message) → On lost messages → test lost ≡ false → wider lost ≡ true
    → suc (how_many test messages) ≤ how_many wider messages
unfolding how_many
one-fewer-passes test wider [] into lost on fails passes = elim on [ ]
one-fewer-passes test wider (first ∷ rest) into lost (inl e) fails passes =
    let here = ap (λ (b : Bool). cond {A = ℕ} b 1 0) (ap test (sym e) ∙ fails) in
    let there = ap (λ (b : Bool). cond {A = ℕ} b 1 0) (ap wider (sym e) ∙ passes) in
    omega (arith, here, there, fewer_pass test wider rest into)
one-fewer-passes test wider (first ∷ rest) into lost (inr on) fails passes =
    let below = one-fewer-passes test wider rest into lost on fails passes in
    omega (arith, one_le (test first) (wider first) (into first), below)

one_more_fails :
    (test : Message → Bool) (messages : List Message) (message : Message) → test message ≡ false
    → how_many test (messages ++ message ∷ []) ≡ how_many test messages
unfolding how_many
one_more_fails test [] message fails = let none = ap (λ (b : Bool). cond {A = ℕ} b 1 0) fails in omega arith
one_more_fails test (first ∷ rest) message fails = let below = one_more_fails test rest message fails in omega arith

-- Accepted messages of a station.

-- a message is accepted, under its own name
abbrev IsKnown : State → Message → Type 0
IsKnown state message = known state message.station message.number ≡ Some message

module _ (state : State) (grounded : Grounded state) where
  known_range :
      (message : Message) → IsKnown state message
      → (1 ≤ message.number) × (message.number ≤ tally state.accepted message.station)
  known_range message e =
      (grounded.sound.kept.gapless message.station message.number).0 (ap (λ (o : Option Message). is_some o) e)

  -- one that is not above the released count of its station is on the roll
  low_on :
      (message : Message) → IsKnown state message → message.number ≤ released state message.station
      → On message (on_roll state.roll)
  low_on message e low =
      let out =
      (grounded.sound.begun.gapless message.station message.number).1 ((known_range message e).0, low) in
      let found = some-message (accepted_as (on_roll state.roll) message.station message.number) out in
      let listed = listed-message (on_roll state.roll) message.station message.number found.0 found.1 in
      let other =
      sym (ap₂ (known state) listed.1 listed.2) ∙ grounded.sound.begun.accepted found.0 listed.0 in
      subst (λ (m : Message). On m (on_roll state.roll)) (same found.0 other) listed.0
    where
      same : (other : Message) → known state message.station message.number ≡ Some other → other ≡ message
      same other f = cc

  -- a later message of a station has no smaller count than an earlier one
  later_counts :
      (earlier later : Message) → IsKnown state earlier → IsKnown state later → earlier.station ≡ later.station
      → earlier.number < later.number → (third : ℕ) → count_of earlier third ≤ count_of later third
  later_counts earlier later e f station below third =
      let well = grounded.sound.kept.orderly.well later.station later.number later f in
      let own = own_count state.settings.n later well in
      let at = ap (count_of later) station in
      let found =
      followed_fewer state.settings.n (known state) grounded.sound.kept.orderly
      later.station later.number later earlier.station earlier.number f
      ((known_range earlier e).0, omega (arith, own, at, below)) in
      subst (λ (m : Message). count_of m third ≤ count_of later third) (same found.message found.is)
      (found.counts third)
    where
      same : (other : Message) → known state earlier.station earlier.number ≡ Some other → other ≡ earlier
      same other g = cc

-- a message under a new name has a number above all of its station
new_number :
    (state : State) (grounded : Grounded state) (newer older : Message) → 1 ≤ newer.number
    → known state newer.station newer.number ≡ None → IsKnown state older → older.station ≡ newer.station
    → older.number < newer.number
new_number state grounded newer older first fresh e station =
    ⊎_elim (λ above. above)
    (λ low.
    let range = known_range state grounded older e in
    let at = ap (tally state.accepted) station in
    let there =
    (grounded.sound.kept.gapless newer.station newer.number).1 (first, omega (arith, range.1, at, low)) in
    absurd (true≢false (sym there ∙ ap (λ (o : Option Message). is_some o) fresh)))
    (cases_lt older.number newer.number)

-- What waits.

-- an accepted message of a station that follows a message
abbrev Follower : State → Message → ℕ → Type 0
Follower state message station =
    (other : Message) × IsKnown state other × (other.station ≡ station)
    × (message.number ≤ count_of other message.station)

-- a message is accepted and not released, and every other station of the group has one that follows it
record Waits (state : State) (message : Message) : Type 0 where
  accepted : IsKnown state message
  unreleased : released state message.station < message.number
  followed :
      (station : ℕ) → 1 ≤ station → station ≤ state.settings.n → (station ≡ message.station → ⊥)
      → Follower state message station

-- how many messages wait with it
abbrev queue : State → Message → ℕ
queue state message = how_many (waits_with state.roll message) state.accepted

module _ (state : State) (grounded : Grounded state) (message : Message) (waits : Waits state message) where
  -- a message that follows it is not released
  follower_unreleased :
      (other : Message) → IsKnown state other → message.number ≤ count_of other message.station
      → released state other.station < other.number
  follower_unreleased other e after-it =
      ⊎_elim (λ above. above)
      (λ low.
      let released-too = grounded.closed other (low_on state grounded other e low) message.station in
      absurd (omega (arith, released-too, waits.unreleased, after-it)))
      (cases_lt (released state other.station) other.number)

  -- so every station of the group has a head

  head_there :
      (other : Message) → IsKnown state other → released state other.station < other.number
      → is_present (known state) (released state) other.station ≡ true
  head_there other e above =
      let range = known_range state grounded other e in
      (grounded.sound.kept.gapless other.station (suc (released state other.station))).1
      (omega arith, omega (arith, above, range.1))

  all_heads : (place : ℕ) → place < state.settings.n → is_present (known state) (released state) (suc place) ≡ true
  all_heads place below =
      ⊎_elim
      (λ own.
      subst (λ (k : ℕ). is_present (known state) (released state) k ≡ true) (sym own)
      (head_there message waits.accepted waits.unreleased))
      (λ other.
      let follower = waits.followed (suc place) (omega arith) below other in
      subst (λ (k : ℕ). is_present (known state) (released state) k ≡ true) follower.2
      (head_there follower.0 follower.1 (follower_unreleased follower.0 follower.1 follower.3)))
      (cases_eq (suc place) message.station)

-- Every call puts the message on the roll, or leaves it waiting with no more others, and with fewer where it counts.

abbrev Onward : State → State → Message → ℕ → Type 0
Onward state next message spent =
    On message (on_roll next.roll) ⊎ (Waits next message × (spent + queue next message ≤ queue state message))

-- with more on the roll no more others wait
still_waits :
    (entries more : List Entry) (message other : Message) → waits_with (entries ++ more) message other ≡ true
    → waits_with entries message other ≡ true
still_waits entries more message other e =
    let parts =
    and_parts (not (is_named other message.station message.number))
    (not (is_on (entries ++ more) other) && not (follows other message)) e in
    let inner = and_parts (not (is_on (entries ++ more) other)) (not (follows other message)) parts.1 in
    and_from (not (is_named other message.station message.number))
    (not (is_on entries other) && not (follows other message)) parts.0
    (and_from (not (is_on entries other)) (not (follows other message))
    (⊎_elim (λ on. absurd (true≢false (sym inner.0 ∙ not_from_true (is_on (entries ++ more) other) (stays_on on))))
    (λ off. not_from_false (is_on entries other) off) (cases_Bool (is_on entries other)))
    inner.1)
  where
    stays_on : is_on entries other ≡ true → is_on (entries ++ more) other ≡ true
    stays_on on =
        ap (λ (l : List Message). is_some (accepted_as l other.station other.number)) (roll-joined entries more)
        ∙ found_first (on_roll entries) (on_roll more) other.station other.number on

-- what is on the roll does not wait
on_waits_not :
    (entries : List Entry) (message other : Message) → On other (on_roll entries)
    → waits_with entries message other ≡ false
on_waits_not entries message other on =
    and_right (not (is_named other message.station message.number))
    (not (is_on entries other) && not (follows other message))
    (and_left (not (is_on entries other)) (not (follows other message))
    (not_from_true (is_on entries other) (on_found other (on_roll entries) on)))

-- and neither does what follows the message
follower_waits_not :
    (entries : List Entry) (message other : Message) → follows other message ≡ true
    → waits_with entries message other ≡ false
follower_waits_not entries message other after-it =
    and_right (not (is_named other message.station message.number))
    (not (is_on entries other) && not (follows other message))
    (and_right (not (is_on entries other)) (not (follows other message)) (not_from_true (follows other message) after-it))

-- a message that a wave can hold waits with it, unless it is the message
freed_waits :
    (state : State) (grounded : Grounded state) (message other : Message) → Waits state message → Freed state other
    → is_named other message.station message.number ≡ false → waits_with state.roll message other ≡ true
freed_waits state grounded message other waits freed apart =
    and_from (not (is_named other message.station message.number))
    (not (is_on state.roll other) && not (follows other message))
    (not_from_false (is_named other message.station message.number) apart)
    (and_from (not (is_on state.roll other)) (not (follows other message))
    (⊎_elim
    (λ on.
    let low = ((grounded.sound.begun.gapless other.station other.number).0 on).1 in
    absurd (omega (arith, low, freed.next)))
    (λ off. not_from_false (is_on state.roll other) off) (cases_Bool (is_on state.roll other)))
    (not_from_false (follows other message)
    (and_right (leb 1 message.number) (leb message.number (count_of other message.station))
    (lt-leb message.number (count_of other message.station)
    (omega (arith, freed.ready message.station, waits.unreleased))))))

-- messages that are accepted under one name are one
one_name :
    (state : State) (message other : Message) → IsKnown state message → IsKnown state other
    → is_named other message.station message.number ≡ true → other ≡ message
one_name state message other e f here =
    let both = and_parts (eqb other.station message.station) (eqb other.number message.number) here in
    let at =
    ap₂ (known state) (eqb-true other.station message.station both.0)
    (eqb-true other.number message.number both.1) in
    cc

settled_onward :
    (state : State) (grounded : Grounded state) (message : Message) → Waits state message
    → (rule : RuleMeaning) (lawful : rules.Lawful rule) (order : TieMeaning) (orderly : ties.Lawful order) (sources : ℕ)
    → Settled state rule order sources → Grounded (releasing state (wave_from state order sources))
    → Onward state (releasing state (wave_from state order sources)) message 1
settled_onward state grounded message waits rule lawful order orderly sources settled grounded' =
    ⊎_elim
    (λ here.
    inl (subst (λ (m : Message). On m (on_roll (state.roll ++ wave_from state order sources)))
    (one_name state message first waits.accepted freed.accepted here) first_on))
    (λ apart.
    ⊎_elim
    (λ above. inr (record { accepted = waits.accepted; unreleased = above; followed = waits.followed }, fewer apart))
    (λ low. inl (low_on (releasing state (wave_from state order sources)) grounded' message waits.accepted low))
    (cases_lt (released (releasing state (wave_from state order sources)) message.station) message.number))
    (cases_Bool (is_named first message.station message.number))
  where
    one : (x : Message) × On x (wave_of order (next_wave state) (head (known state) (released state)) sources)
    one = some_freed state grounded.sound rule lawful order orderly sources settled

    first : Message
    first = one.0

    freed : Freed state first
    freed = wave_freed state grounded.sound rule lawful order orderly sources settled first one.1

    first_on : On first (on_roll (state.roll ++ wave_from state order sources))
    first_on =
        subst (λ (l : List Message). On first l) (sym (roll_messages state order sources))
        (on_second first (on_roll state.roll)
        (wave_of order (next_wave state) (head (known state) (released state)) sources) one.1)

    fewer :
        is_named first message.station message.number ≡ false
        → 1 + queue (releasing state (wave_from state order sources)) message ≤ queue state message
    fewer apart =
        let less =
        one-fewer-passes (waits_with (state.roll ++ wave_from state order sources) message)
        (waits_with state.roll message) state.accepted
        (still_waits state.roll (wave_from state order sources) message) first
        (listed-message state.accepted first.station first.number first freed.accepted).0
        (on_waits_not (state.roll ++ wave_from state order sources) message first first_on)
        (freed_waits state grounded message first waits freed apart) in
        omega (arith, less)

-- an accepted message follows it: it comes after one of its own station that does, or after the message itself
newer-follows :
    (state : State) (grounded : Grounded state) (message newer : Message) → Waits state message
    → well_formed state.settings.n newer ≡ true → known state newer.station newer.number ≡ None
    → Grounded (accepting state newer) → message.number ≤ count_of newer message.station
newer-follows state grounded message newer waits well fresh grounded' =
    ⊎_elim
    (λ same.
    let own = own_count state.settings.n newer well in
    let at = ap (count_of newer) same in
    let above = new_number state grounded newer message first fresh waits.accepted (sym same) in
    omega (arith, own, at, above))
    (λ apart.
    let follower =
    waits.followed newer.station (station_first state.settings.n newer well)
    (station_last state.settings.n newer well) apart in
    let above = new_number state grounded newer follower.0 first fresh follower.1 follower.2 in
    let counts =
    later_counts (accepting state newer) grounded' follower.0 newer
    (found-stays state.accepted newer follower.0 follower.0.station follower.0.number fresh follower.1)
    (accepted_new state.accepted newer newer.station newer.number (own_name newer)) follower.2 above
    message.station in
    omega (arith, counts, follower.3))
    (cases_eq newer.station message.station)
  where
    first : 1 ≤ newer.number
    first = number_first state.settings.n newer well

accepting_onward :
    (state : State) (grounded : Grounded state) (message newer : Message) → Waits state message
    → well_formed state.settings.n newer ≡ true → known state newer.station newer.number ≡ None
    → Grounded (accepting state newer) → Onward state (accepting state newer) message 0
accepting_onward state grounded message newer waits well fresh grounded' =
    let same =
    one_more_fails (waits_with state.roll message) state.accepted newer
    (follower_waits_not state.roll message newer
    (and_from (leb 1 message.number) (leb message.number (count_of newer message.station))
    (le-leb 1 message.number (known_range state grounded message waits.accepted).0)
    (le-leb message.number (count_of newer message.station)
    (newer-follows state grounded message newer waits well fresh grounded')))) in
    inr (
      record {
        accepted =
            found-stays state.accepted newer message message.station message.number fresh waits.accepted;
        unreleased = waits.unreleased;
        followed =
            λ station low high apart.
            let follower = waits.followed station low high apart in
            let stays-known =
            found-stays state.accepted newer follower.0 follower.0.station follower.0.number fresh
            follower.1 in
            (follower.0, stays-known, follower.2, follower.3);
      },
      omega (arith, same),
    )

-- Any call.

move_onward :
    (state next : State) → Move state next → Grounded state → Grounded next → (message : Message) → Waits state message
    → Onward state next message 0
move_onward state next (stays same) grounded grounded' message waits =
    subst (λ (s : State). Onward state s message 0) (sym same) (inr (waits, omega arith))
move_onward state next (accepts newer same live well fresh timely straight) grounded grounded' message waits =
    subst (λ (s : State). Onward state s message 0) (sym same)
    (accepting_onward state grounded message newer waits well fresh (subst Grounded same grounded'))
move_onward state next (settles rule lawful order orderly sources settled same) grounded grounded' message waits =
    subst (λ (s : State). Onward state s message 0) (sym same)
    (⊎_elim (λ on. inl on) (λ rest. inr (rest.0, omega (arith, rest.1)))
    (settled_onward state grounded message waits rule lawful order orderly sources settled
    (subst Grounded same grounded')))
move_onward state next (carries_out entry there same) grounded grounded' message waits =
    subst (λ (s : State). Onward state s message 0) (sym same)
    (inr (record { accepted = waits.accepted; unreleased = waits.unreleased; followed = waits.followed }, omega arith))

-- a release that counts is not answered 12
counted :
    (answer : Result ℕ Fault)
    → (one_unless_setting answer ≡ 0) ⊎ ((one_unless_setting answer ≡ 1) × (answer ≡ Err Setting → ⊥))
counted (Ok long) = inr (refl, λ e. let z : ◌≡◌ {A = ℕ} 0 1 = cc in omega arith)
counted (Err fault) = by_number (eqb (numbered fault) 12) refl
  where
    by_number :
        (twelve : Bool) → eqb (numbered fault) 12 ≡ twelve
        → (cond {A = ℕ} twelve 0 1 ≡ 0)
        ⊎ ((cond {A = ℕ} twelve 0 1 ≡ 1) × (◌≡◌ {A = Result ℕ Fault} (Err fault) (Err Setting) → ⊥))
    by_number true e = inl refl
    by_number false e =
        inr (
          refl,
          λ same.
              let setting : fault ≡ Setting = cc in
              true≢false (sym (ap (λ (f : Fault). eqb (numbered f) 12) setting) ∙ e),
        )

-- a release that is not answered 12 settles
release_onward :
    (state : State) (grounded : Grounded state) (message : Message) → Waits state message
    → (rule : RuleMeaning) (lawful : rules.Lawful rule) (order : TieMeaning) (orderly : ties.Lawful order)
    → ((release_of state rule order).answer ≡ Err Setting → ⊥) → Grounded (release_of state rule order).next
    → Onward state (release_of state rule order).next message 1
release_onward state grounded message waits rule lawful order orderly counts grounded' =
    let ask = asked state rule order grounded.sound counts in
    let answer =
    lawful.settles_when_all_present ask.board
    (board_size state.settings.n (known state) (released state) ask.board ask.board_is ∙ sym ask.rule_n)
    (nobody_absent state.settings.n (known state) (released state) ask.board ask.board_is
    (all_heads state grounded message waits)) in
    let same = ask.settled_next answer.0 answer.1 in
    subst (λ (s : State). Onward state s message 1) (sym same)
    (settled_onward state grounded message waits rule lawful order orderly answer.0
    (record {
      live = ask.live;
      rule_n = ask.rule_n;
      order_n = ask.order_n;
      board = ask.board;
      board_is = ask.board_is;
      answer = answer.1;
    })
    (subst Grounded same grounded'))

module _ {Held Reply : Type 0} (step : Step Held Reply) where
  by_move :
      (at : Moment Held Reply) (call : Call) → Grounded at.state → (message : Message) → Waits at.state message
      → Onward at.state (call_next step at call).state message 0
  by_move at call grounded message waits =
      move_onward at.state (call_next step at call).state (move_of step at call grounded.sound) grounded
      (grounded_next step at call grounded) message waits

  call_onward :
      (at : Moment Held Reply) (call : Call) → Grounded at.state → (message : Message) → Waits at.state message
      → Onward at.state (call_next step at call).state message (release_count at.state call)
  call_onward at (write class order note block) grounded message waits =
      by_move at (write class order note block) grounded message waits
  call_onward at (offer block) grounded message waits = by_move at (offer block) grounded message waits
  call_onward at (release rule lawful order orderly) grounded message waits =
      ⊎_elim
      (λ none.
      subst (λ (spent : ℕ). Onward at.state (release_of at.state rule order).next message spent) (sym none)
      (by_move at (release rule lawful order orderly) grounded message waits))
      (λ one.
      subst (λ (spent : ℕ). Onward at.state (release_of at.state rule order).next message spent) (sym one.0)
      (release_onward at.state grounded message waits rule lawful order orderly one.1
      (grounded_next step at (release rule lawful order orderly) grounded)))
      (counted (release_of at.state rule order).answer)
  call_onward at post grounded message waits = by_move at post grounded message waits
  call_onward at (show place) grounded message waits = by_move at (show place) grounded message waits

  -- what is on the roll stays there
  on_stays :
      (at : Moment Held Reply) (calls : List Call) (message : Message) → On message (on_roll at.state.roll)
      → On message (on_roll (after step at calls).state.roll)
  on_stays at calls message on =
      let grown = roll_grows step at calls in
      subst (λ (entries : List Entry). On message (on_roll entries)) (sym grown.1)
      (subst (λ (l : List Message). On message l) (sym (roll-joined at.state.roll grown.0))
      (on_first message (on_roll at.state.roll) (on_roll grown.0) on))

  -- one more release than others wait
  released_in_time :
      (at : Moment Held Reply) (between : List Call) (message : Message) → Grounded at.state
      → Waits at.state message → suc (queue at.state message) ≤ releases step at between
      → On message (on_roll (after step at between).state.roll)
  unfolding after releases
  released_in_time at [] message grounded waits enough = absurd (omega arith)
  released_in_time at (call ∷ between) message grounded waits enough =
      ⊎_elim (λ on. on_stays (call_next step at call) between message on)
      (λ rest.
      released_in_time (call_next step at call) between message (grounded_next step at call grounded) rest.0
      (omega (arith, rest.1, enough)))
      (call_onward at call grounded message waits)

pub waiting_bound : {Held Reply : Type 0} → WaitingBound Held Reply
waiting_bound run calls between message entries entries' accepted rolled off followed enough rolled' =
    let grounded = grounded_at run calls in
    let told = accepted-told run calls in
    let settings = settings-kept run.step (beginning run) calls in
    let same : entries ≡ (state_at run calls).roll = one_roll (state_at run calls) entries rolled ∙ grounded.shown in
    let known_is = grounded.named message (subst (λ (l : List Message). On message l) told accepted) in
    let waits : Waits (state_at run calls) message =
    record {
      accepted = known_is;
      unreleased =
          ⊎_elim (λ above. above)
          (λ low.
          absurd (off (subst (λ (l : List Entry). On message (on_roll l)) (sym same)
          (low_on (state_at run calls) grounded message known_is low))))
          (cases_lt (released (state_at run calls) message.station) message.number);
      followed =
          λ station low high apart.
          let follower =
          followed station low (omega (arith, high, ap (λ (s : Settings). s.n) settings)) apart in
          let after-it =
          (and_parts (leb 1 message.number) (leb message.number (count_of follower.0 message.station))
          follower.3).1 in (
            follower.0,
            grounded.named follower.0 (subst (λ (l : List Message). On follower.0 l) told follower.1),
            follower.2,
            leb-true message.number (count_of follower.0 message.station) after-it,
          );
    } in
    let fits : suc (queue (state_at run calls) message) ≤ releases run.step (moment run calls) between =
    subst (λ (l : List Message). suc (how_many (waits_with (state_at run calls).roll message) l)
    ≤ releases run.step (moment run calls) between) told
    (subst (λ (l : List Entry). suc (how_many (waits_with l message) (accepted_in run.step (beginning run) calls))
    ≤ releases run.step (moment run calls) between) same enough) in
    let out = released_in_time run.step (moment run calls) between message grounded waits fits in
    let end = one_roll (state_at run (calls ++ between)) entries' rolled' ∙ (grounded_at run (calls ++ between)).shown in
    let whole = ap (λ (m : Moment _ _). m.state.roll) (after-append run.step (beginning run) calls between) in
    subst (λ (l : List Entry). On message (on_roll l)) (sym (end ∙ whole)) out
