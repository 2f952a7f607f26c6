-- What holds of the messages of every station that calls have led to. Assumes nothing.
use Rattle.std.specs.Prelude.{◌≡◌, ℕ, ◌<◌, ◌≤◌, true, false, List, length, is_some, Some, None, Ok, Decides}
use Rattle.board.specs.Rules.{RuleMeaning}
use Rattle.board.specs.Rules as rules
use Rattle.board.specs.declared.board.Board.{Board}
use Rattle.ties.specs.Ties.{TieMeaning}
use Rattle.ties.specs.Ties as ties
use Rattle.wire.specs.Messages.{well_formed}
use Rattle.wire.specs.declared.message.Message.{Message}
use Rattle.model.specs.Accepted.{Accepted, accepted_as, crossed, early, tally}
use Rattle.model.specs.declared.entry.Entry.{Entry}
use Rattle.model.specs.Calls.{wave_from}
use Rattle.model.specs.Following.{Follows, count_of}
use Rattle.model.specs.Heads.{board_at}
use Rattle.model.specs.States.{State, is_shut, known, last_wave, on_roll, released}
use Rattle.model.specs.Waves.{On}

-- accepted messages, however they came: each stands under its station and number and is well formed for n (so
-- its own count is its number less 1, and counts above n are 0), all that it follows is accepted, and the last
-- message of each station that it follows has no larger count than it
pub record Orderly (n : ℕ) (accepted : Accepted) : Type 0 where
  pub named :
      (station number : ℕ) (message : Message) → accepted station number ≡ Some message
      → (message.station ≡ station) × (message.number ≡ number)
  pub well :
      (station number : ℕ) (message : Message) → accepted station number ≡ Some message
      → well_formed n message ≡ true
  pub closed :
      (station number : ℕ) (message : Message) (other before : ℕ) → accepted station number ≡ Some message
      → Follows message other before → is_some (accepted other before) ≡ true
  pub uncrossed :
      (station number : ℕ) (message : Message) (other : ℕ) (followed : Message) (third : ℕ)
      → accepted station number ≡ Some message → accepted other (count_of message other) ≡ Some followed
      → count_of followed third ≤ count_of message third

-- the numbers that a list has of a station are 1 up to how many it has, without gaps
abbrev pub Gapless : List Message → Type 0
Gapless messages =
    (station number : ℕ)
    → Decides (is_some (accepted_as messages station number)) ((1 ≤ number) × (number ≤ tally messages station))

-- a station may accept a message: it is open, the message is well formed for its group, new, neither early nor
-- crossed, and there is room
pub record MayAccept (state : State) (message : Message) : Type 0 where
  pub live : is_shut state ≡ false
  pub group : well_formed state.settings.n message ≡ true
  pub fresh : known state message.station message.number ≡ None
  pub timely : early (known state) message ≡ false
  pub straight : crossed (known state) message ≡ false
  pub room : length state.accepted < state.settings.table

-- a station may put a wave on its roll: it is open, and some lawful rule of its n settles its board on the sources
-- whose heads, in some lawful tie order of its n, are the wave
pub record MayRelease (state : State) (sources : ℕ) (wave : List Entry) : Type 0 where
  pub live : is_shut state ≡ false
  pub rule : RuleMeaning
  pub lawful : rules.Lawful rule
  pub order : TieMeaning
  pub orderly : ties.Lawful order
  pub order_n : order.n ≡ state.settings.n
  pub board : Board
  pub board_is : board_at state.settings.n (known state) (released state) ≡ Ok board
  pub answer : rule.answer board ≡ Some sources
  pub wave_is : wave ≡ wave_from state order sources

-- the accepted messages of a station
pub record Kept (n : ℕ) (messages : List Message) : Type 0 where
  pub orderly : Orderly n (accepted_as messages)
  pub gapless : Gapless messages
  pub each_well : (message : Message) → On message messages → well_formed n message ≡ true

-- the released are a beginning of the accepted: what is on the roll is accepted, and of each station the
-- numbers 1 up to how many of it are on the roll
pub record Begun (messages roll : List Message) : Type 0 where
  pub accepted :
      (message : Message) → On message roll
      → accepted_as messages message.station message.number ≡ Some message
  pub gapless : Gapless roll

pub record Sound (state : State) : Type 0 where
  pub kept : Kept state.settings.n state.accepted
  pub begun : Begun state.accepted (on_roll state.roll)
  -- each wave has put some message on the roll
  pub waves : last_wave state.roll ≤ length state.roll
