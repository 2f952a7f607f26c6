-- The state that a station stands for, in parts. Assumes nothing.
use Rattle.std.specs.Prelude.{ℕ, zero, suc, Bool, not, ◌&&◌, List, [], ◌∷◌, ◌++◌, map, length, None, Option, ◌==◌, nat_le}
use Rattle.std.specs.List.{slice_get}
use Rattle.board.specs.Ballots.{is_group}
use Rattle.wire.specs.declared.message.Message.{Message}
use Rattle.model.specs.declared.entry.Entry.{Entry}
use Rattle.model.specs.Accepted.{Accepted, accepted_as, tally}
use Rattle.model.specs.Heads.{Released}

-- what a station was opened with: how many stations the group has, which one it is, and how many places its
-- message table and its roll have
pub record Settings : Type 0 where
  pub n : ℕ
  pub own : ℕ
  pub table : ℕ
  pub roll : ℕ

-- a group of 1 to 16 stations, one of them, and a table and a roll of one length from 1 to 4,096
abbrev pub may_open : Settings → Bool
may_open settings =
    is_group settings.n
    && (nat_le 1 settings.own && (nat_le settings.own settings.n
    && (settings.table == settings.roll && (nat_le 1 settings.table && nat_le settings.table 4096))))

pub record State : Type 0 where
  pub settings : Settings
  -- the accepted messages, in the order in which they were accepted
  pub accepted : List Message
  -- the roll since opening: waves and messages, in the order of release
  pub roll : List Entry
  -- how many entries of the roll are posted
  pub posted : ℕ

-- a station that was made against a refusal is shut
abbrev pub is_shut : State → Bool
is_shut state = not (may_open state.settings)

-- as many messages are accepted as the table has places
abbrev pub is_full : State → Bool
is_full state = nat_le state.settings.table (length state.accepted)

-- the accepted messages by station and number
abbrev pub known : State → Accepted
known state = accepted_as state.accepted

-- the messages of a roll
abbrev pub on_roll : List Entry → List Message
on_roll entries = map (λ entry. entry.message) entries

-- how many messages of each station are on the roll
abbrev pub released : State → Released
released state = tally (on_roll state.roll)

-- the number of the last wave, 0 before the first
abbrev pub last_wave : List Entry → ℕ
last_wave [] = 0
last_wave (entry ∷ []) = entry.wave
last_wave (entry ∷ next ∷ entries) = last_wave (next ∷ entries)

-- the entry at a place of the roll, from 1
abbrev pub entry_at : List Entry → ℕ → Option Entry
entry_at entries zero = None
entry_at entries (suc before) = slice_get entries before

-- the state with one more accepted message
abbrev pub accepting : State → Message → State
accepting state message =
    record {
      settings = state.settings;
      accepted = state.accepted ++ message ∷ [];
      roll = state.roll;
      posted = state.posted;
    }

-- the state with a wave more on the roll
abbrev pub releasing : State → List Entry → State
releasing state wave =
    record { settings = state.settings; accepted = state.accepted; roll = state.roll ++ wave; posted = state.posted }

-- the state with one more entry posted
abbrev pub posting : State → State
posting state =
    record {
      settings = state.settings;
      accepted = state.accepted;
      roll = state.roll;
      posted = suc state.posted;
    }
