-- The state that lent memory and counters stand for. Assumes nothing.
use Rattle.std.specs.Prelude.{ℕ, ◌+◌, List, ◌++◌, map, length, take, drop}
use Rattle.model.specs.States.{Settings, State}
use Rattle.model.specs.declared.entry.Entry.{Entry}
use Rattle.wire.specs.declared.message.Message.{Message}
use Rattle.station.specs.declared.places.Place.{Place}

-- the place of lent memory that holds something, a message of the table or an entry of the roll
abbrev pub holding : {Content : Type 0} → Content → Place Content
holding content = record { content = content }

-- memory in which some places, from one on, hold what was written there
abbrev pub overwritten : {Place : Type 0} → List Place → ℕ → List Place → List Place
overwritten memory place written = take place memory ++ (written ++ drop (place + length written) memory)

-- what the first places hold
abbrev pub contents_in : {Content : Type 0} → ℕ → List (Place Content) → List Content
contents_in used places = map (λ place. place.content) (take used places)

abbrev pub settings_of : ℕ → ℕ → List (Place Message) → List (Place Entry) → Settings
settings_of n own table roll = record { n = n; own = own; table = length table; roll = length roll }

-- the state: what stands beyond the used places of table and roll does not count
abbrev pub state_of : ℕ → ℕ → List (Place Message) → ℕ → List (Place Entry) → ℕ → ℕ → State
state_of n own table used roll rolled posted =
    record {
      settings = settings_of n own table roll;
      accepted = contents_in used table;
      roll = contents_in rolled roll;
      posted = posted;
    }
