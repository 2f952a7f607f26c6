-- Which state a station stands for, and what its contracts say by it. Assumes nothing.
use Rattle.std.specs.Prelude.{◌≡◌, ℕ, suc, ◌<◌, List, map, None, Ok, Err, Option, Result, slice_index_or, slice_set}
use Rattle.model.specs.Arrays.{wave_messages}
use Rattle.model.specs.Calls.{Outcome, as_entries, next_wave}
use Rattle.model.specs.Heads.{head}
use Rattle.model.specs.States.{State, known, released}
use Rattle.model.specs.declared.entry.Entry.{Entry}
use Rattle.model.specs.declared.wave.Wave.{Wave}
use Rattle.wire.specs.declared.fault.Fault.{Fault}
use Rattle.wire.specs.declared.message.Message.{Message}
use Rattle.station.specs.declared.places.Place.{Place}
use Rattle.station.specs.declared.station.Station.{Station}
use Rattle.station.specs.Memory.{holding, overwritten, state_of}

-- the state that a station stands for
abbrev pub state_of_station : Station → State
state_of_station station =
    state_of station.n station.own station.table.places.now station.table.used station.roll.places.now station.roll.used station.posted

abbrev pub StandsFor : Station → State → Type 0
StandsFor station state = state_of_station station ≡ state

-- a call of a station does what its definition says: whatever state the station stood for, the answer is the
-- definition's, and afterwards it stands for the definition's next state
pub record Does {Answer : Type 0} (before after : Station) (call : State → Outcome Answer) (answer : Result Answer Fault) : Type 0 where
  pub answers : (state : State) → StandsFor before state → answer ≡ (call state).answer
  pub leaves : (state : State) → StandsFor before state → StandsFor after (call state).next

-- the two pieces of lent memory are those that were lent
pub record SameMemory (before after : Station) : Type 0 where
  pub table : after.table.places.ghost_name ≡ before.table.places.ghost_name
  pub roll : after.roll.places.ghost_name ≡ before.roll.places.ghost_name

-- what a table holds after a message was taken in, or refused
abbrev pub table_after : Result Message Fault → ℕ → List (Place Message) → List (Place Message)
table_after (Ok message) used table = slice_set table used (holding message)
table_after (Err fault) used table = table

-- a refusal leaves a value as it was
abbrev pub SameIfRefused : {Answer Value : Type 0} → Result Answer Fault → Value → Value → Type 0
SameIfRefused (Ok answer) before after = Unit {0}
SameIfRefused (Err fault) before after = after ≡ before

-- a refusal leaves the station, its memory included, as it was
abbrev pub UnchangedIfRefused : {Answer : Type 0} → Result Answer Fault → Station → Station → Type 0
UnchangedIfRefused answer before after = SameIfRefused answer before after

-- sixteen heads are those of the state that a station stands for
abbrev pub AreHeads : Station → List (Option Message) → Type 0
AreHeads station heads =
    (place : ℕ) → place < 16
    → slice_index_or heads place None ≡ head (known (state_of_station station)) (released (state_of_station station)) (suc place)

-- a decided wave as entries of the roll
abbrev pub wave_told : ℕ → Result Wave Fault → Result (List Entry) Fault
wave_told number (Ok wave) = Ok (as_entries number (wave_messages wave))
wave_told number (Err fault) = Err fault

-- the entries of a wave that comes next
abbrev pub entries_of : Station → Wave → List Entry
entries_of station wave = as_entries (next_wave (state_of_station station)) (wave_messages wave)

-- what a roll holds after a wave was put on it, or was not
abbrev pub roll_after : Result (List Entry) Fault → ℕ → List (Place Entry) → List (Place Entry)
roll_after (Ok entries) rolled roll = overwritten roll rolled (map holding entries)
roll_after (Err fault) rolled roll = roll
