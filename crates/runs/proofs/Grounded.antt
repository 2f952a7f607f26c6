-- What else holds at every moment of every run: accepted messages are told by their names, what a released message
-- follows is released, and a station shows all of its roll. Assumes nothing.
use Rattle.std.proofs.Common.{◌≡◌, ℕ, ◌≤◌, Bool, true, false, cond, eqb, ◌⊎◌, List, [], ◌∷◌, ◌++◌, Some, None, Option, sym, refl, ap, ◌∙◌, subst, ap₂, ⊎_elim, arith}
use Rattle.std.proofs.lemmas.Bool.{and_from, and_parts, cases_Bool, eq-eqb, eqb-true}
use Rattle.board.specs.Rules.{RuleMeaning}
use Rattle.board.specs.Rules as rules
use Rattle.ties.specs.Ties.{TieMeaning}
use Rattle.ties.specs.Ties as ties
use Rattle.wire.specs.declared.message.Message.{Message}
use Rattle.model.specs.declared.entry.Entry.{Entry}
use Rattle.model.specs.Accepted.{accepted_as, is_named, tally}
use Rattle.model.specs.Calls.{next_wave, opened, wave_from}
use Rattle.model.specs.Following.{count_of}
use Rattle.model.specs.Heads.{head}
use Rattle.model.specs.Sound.{Sound}
use Rattle.model.specs.States.{Settings, State, accepting, is_shut, known, on_roll, released, releasing}
use Rattle.model.specs.Waves.{On, wave_of}
use Rattle.model.proofs.Keeping.{sound-opened}
use Rattle.model.proofs.Pushed.{accepted_new, accepted_old, on_push}
use Rattle.runs.specs.Promise.{roll_of}
use Rattle.runs.specs.Runs.{Call, Moment, Run, Step, after, beginning, call_next, state_at}
use Rattle.runs.proofs.Joined.{on_either, roll-joined, tally-first, wave_messages}
use Rattle.runs.proofs.Reached.{Move, Settled, move_of, sound-kept, stays, accepts, settles, carries_out}
use Rattle.runs.proofs.Settling.{wave_freed}

pub record Grounded (state : State) : Type 0 where
  pub sound : Sound state
  -- an accepted message is the one under its name
  pub named :
      (message : Message) → On message state.accepted → known state message.station message.number ≡ Some message
  -- all that a released message follows is released
  pub closed :
      (message : Message) → On message (on_roll state.roll)
      → (station : ℕ) → count_of message station ≤ released state station
  pub shown : roll_of state ≡ state.roll

grounded_opened : (settings : Settings) → Grounded (opened settings)
grounded_opened settings =
    record {
      sound = sound-opened settings;
      named = λ message on. absurd on;
      closed = λ message on. absurd on;
      shown = nothing (is_shut (opened settings));
    }
  where
    nothing : (shut : Bool) → cond {A = List Entry} shut [] [] ≡ []
    nothing true = refl
    nothing false = refl

-- Accepting a message under a new name.

-- a message is under its own name
pub own_name : (message : Message) → is_named message message.station message.number ≡ true
own_name message =
    and_from (eqb message.station message.station) (eqb message.number message.number)
    (eq-eqb message.station message.station refl) (eq-eqb message.number message.number refl)

not_both : (found : Option Message) (message : Message) → found ≡ None → found ≡ Some message → ⊥
not_both found message none some = let z : ◌≡◌ {A = ℕ} 0 1 = cc in omega arith

-- what is found stays found
pub found-stays :
    (messages : List Message) (newer message : Message) (station number : ℕ)
    → accepted_as messages newer.station newer.number ≡ None → accepted_as messages station number ≡ Some message
    → accepted_as (messages ++ newer ∷ []) station number ≡ Some message
found-stays messages newer message station number fresh e =
    ⊎_elim
    (λ here.
    let both = and_parts (eqb newer.station station) (eqb newer.number number) here in
    absurd (not_both (accepted_as messages station number) message
    (sym (ap₂ (accepted_as messages) (eqb-true newer.station station both.0)
    (eqb-true newer.number number both.1))
    ∙ fresh)
    e))
    (λ other. accepted_old messages newer station number other ∙ e)
    (cases_Bool (is_named newer station number))

grounded_accepting :
    (state : State) (message : Message) → known state message.station message.number ≡ None
    → Sound (accepting state message) → Grounded state → Grounded (accepting state message)
grounded_accepting state message fresh sound grounded =
    record {
      sound = sound;
      named =
          λ other on.
          ⊎_elim
          (λ old.
          found-stays state.accepted message other other.station other.number fresh (grounded.named other old))
          (λ new.
          subst (λ (m : Message). accepted_as (state.accepted ++ message ∷ []) m.station m.number ≡ Some m)
          (sym new)
          (accepted_new state.accepted message message.station message.number (own_name message)))
          (on_push state.accepted message other on);
      closed = grounded.closed;
      shown = grounded.shown;
    }

-- Releasing a wave.

-- the messages that are then on the roll
pub roll_messages :
    (state : State) (order : TieMeaning) (sources : ℕ)
    → on_roll (state.roll ++ wave_from state order sources)
    ≡ on_roll state.roll ++ wave_of order (next_wave state) (head (known state) (released state)) sources
roll_messages state order sources =
    roll-joined state.roll (wave_from state order sources)
    ∙ ap (λ (l : List Message). on_roll state.roll ++ l)
    (wave_messages (next_wave state) (wave_of order (next_wave state) (head (known state) (released state)) sources))

grounded_releasing :
    (state : State) (rule : RuleMeaning) (lawful : rules.Lawful rule) (order : TieMeaning) (orderly : ties.Lawful order)
    (sources : ℕ) → Settled state rule order sources → Sound (releasing state (wave_from state order sources))
    → Grounded state → Grounded (releasing state (wave_from state order sources))
grounded_releasing state rule lawful order orderly sources settled sound grounded =
    record {
      sound = sound;
      named = grounded.named;
      closed =
          λ message on station.
          subst (λ (l : List Message). count_of message station ≤ tally l station)
          (sym (roll_messages state order sources))
          (counted message station
          (on_either message (on_roll state.roll) wave
          (subst (λ (l : List Message). On message l) (roll_messages state order sources) on)));
      shown = ap (λ shut. cond shut [] (state.roll ++ wave_from state order sources)) settled.live;
    }
  where
    wave : List Message
    wave = wave_of order (next_wave state) (head (known state) (released state)) sources

    counted :
        (message : Message) (station : ℕ) → On message (on_roll state.roll) ⊎ On message wave
        → count_of message station ≤ tally (on_roll state.roll ++ wave) station
    counted message station on =
        let more = tally-first (on_roll state.roll) wave station in
        ⊎_elim (λ old. omega (arith, grounded.closed message old station, more))
        (λ new.
        let freed = wave_freed state grounded.sound rule lawful order orderly sources settled message new in
        omega (arith, freed.ready station, more))
        on

-- Any call, and all of them.

grounded_move : (state next : State) → Move state next → Sound next → Grounded state → Grounded next
grounded_move state next (stays same) sound grounded = subst Grounded (sym same) grounded
grounded_move state next (accepts message same live well fresh timely straight) sound grounded =
    subst Grounded (sym same) (grounded_accepting state message fresh (subst Sound same sound) grounded)
grounded_move state next (settles rule lawful order orderly sources settled same) sound grounded =
    subst Grounded (sym same)
    (grounded_releasing state rule lawful order orderly sources settled (subst Sound same sound) grounded)
grounded_move state next (carries_out entry there same) sound grounded =
    subst Grounded (sym same)
    (record { sound = subst Sound same sound; named = grounded.named; closed = grounded.closed; shown = grounded.shown })

module _ {Held Reply : Type 0} (step : Step Held Reply) where
  sound_next : (at : Moment Held Reply) (call : Call) → Sound at.state → Sound (call_next step at call).state
  unfolding after
  sound_next at call sound = sound-kept step at (call ∷ []) sound

  pub grounded_next :
      (at : Moment Held Reply) (call : Call) → Grounded at.state → Grounded (call_next step at call).state
  grounded_next at call grounded =
      grounded_move at.state (call_next step at call).state (move_of step at call grounded.sound)
      (sound_next at call grounded.sound) grounded

  grounded_after :
      (at : Moment Held Reply) (calls : List Call) → Grounded at.state → Grounded (after step at calls).state
  unfolding after
  grounded_after at [] grounded = grounded
  grounded_after at (call ∷ calls) grounded =
      grounded_after (call_next step at call) calls (grounded_next at call grounded)

pub grounded_at : {Held Reply : Type 0} (run : Run Held Reply) (calls : List Call) → Grounded (state_at run calls)
grounded_at run calls = grounded_after run.step (beginning run) calls (grounded_opened run.settings)
