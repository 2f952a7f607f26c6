-- When each answer of the calls comes: exactly when. Assumes nothing.
use Rattle.std.specs.Prelude.{◌≡◌, ℕ, suc, ◌<◌, ◌≤◌, true, false, ◌⊎◌, ◌↔◌, List, length, Some, None, Ok, Err, Result, ◌≢◌}
use Rattle.board.specs.Rules.{RuleMeaning}
use Rattle.board.specs.declared.board.Board.{Board}
use Rattle.ties.specs.Ties.{TieMeaning}
use Rattle.wire.specs.Format.{Contents, reading}
use Rattle.wire.specs.Words.{byte}
use Rattle.wire.specs.declared.fault.Fault.{Fault}
use Rattle.wire.specs.declared.fault.Fault.TheVariants.{Length, Check, Layout, Repeat, Clash, Early, Crossed, Full, NothingReady, NothingToPost, NoSuchPlace, Setting}
use Rattle.wire.specs.declared.message.Message.{Message}
use Rattle.model.specs.declared.entry.Entry.{Entry}
use Rattle.model.specs.Calls.{wave_from}
use Rattle.model.specs.Following.{Alike, Follows, count_of}
use Rattle.model.specs.Heads.{board_at}
use Rattle.model.specs.States.{Settings, State, entry_at, is_shut, known, released}

-- a station may be opened: a group of 1 to 16, an own station of it, and a table and a roll of one length from 1
-- to 4,096
pub record IsLawful (settings : Settings) : Type 0 where
  pub some_stations : 1 ≤ settings.n
  pub few_stations : settings.n ≤ 16
  pub own_first : 1 ≤ settings.own
  pub own_last : settings.own ≤ settings.n
  pub one_length : settings.table ≡ settings.roll
  pub some_places : 1 ≤ settings.table
  pub few_places : settings.table ≤ 4096

pub record OpenAnswers (settings : Settings) (answer : Result (Unit {0}) Fault) : Type 0 where
  pub done : (answer ≡ Ok tt) ↔ IsLawful settings
  pub setting : (answer ≡ Err Setting) ↔ (IsLawful settings → ⊥)

-- a message is accepted already under the station and number of another
abbrev pub Has : State → Message → Message → Type 0
Has state message other = known state message.station message.number ≡ Some other

abbrev pub IsNew : State → Message → Type 0
IsNew state message = known state message.station message.number ≡ None

-- accepted already, alike in after-list, class and order bytes
abbrev pub IsRepeat : State → Message → Type 0
IsRepeat state message = (other : Message) × Has state message other × Alike message other

-- accepted already, unlike in one of them
abbrev pub IsClash : State → Message → Type 0
IsClash state message = (other : Message) × Has state message other × (Alike message other → ⊥)

-- something that it follows is not accepted
abbrev pub LacksSome : State → Message → Type 0
LacksSome state message =
    (station : ℕ) × (number : ℕ) × Follows message station number × (known state station number ≡ None)

-- for some station with a non-zero count, the accepted message of that station with that number has a larger
-- count for some station, of the sixteen that a message has counts for
abbrev pub IsCrossed : State → Message → Type 0
IsCrossed state message =
    (station : ℕ) × (other : Message) × (third : ℕ) × (third ≤ 16)
    × (0 < count_of message station)
    × (known state station (count_of message station) ≡ Some other)
    × (count_of message third < count_of other third)

abbrev pub HasNoRoom : State → Type 0
HasNoRoom state = state.settings.table ≤ length state.accepted

-- each answer of taking in a message comes exactly when the words say
pub record TakeAnswers (state : State) (message : Message) (answer : Result (Unit {0}) Fault) : Type 0 where
  pub repeat : (answer ≡ Err Repeat) ↔ IsRepeat state message
  pub clash : (answer ≡ Err Clash) ↔ IsClash state message
  pub early : (answer ≡ Err Early) ↔ (IsNew state message × LacksSome state message)
  pub crossed :
      (answer ≡ Err Crossed)
      ↔ (IsNew state message × (LacksSome state message → ⊥) × IsCrossed state message)
  pub full :
      (answer ≡ Err Full)
      ↔ (IsNew state message × (LacksSome state message → ⊥) × (IsCrossed state message → ⊥) × HasNoRoom state)
  pub done :
      (answer ≡ Ok tt)
      ↔ (IsNew state message × (LacksSome state message → ⊥) × (IsCrossed state message → ⊥) × (HasNoRoom state → ⊥))

-- the station is open, and the block reads well and carries the message for its n
pub record Carries (state : State) (block : List ℕ) (message : Message) : Type 0 where
  pub contents : Contents
  pub live : is_shut state ≡ false
  pub reads : reading block ≡ Ok contents
  pub group : contents.n ≡ state.settings.n
  pub carried : contents.message ≡ message

-- it carries a message of which something holds
abbrev pub CarriesOne : State → List ℕ → (Message → Type 0) → Type 0
CarriesOne state block Holds = (message : Message) × Carries state block message × Holds message

-- it reads well and is for another n
abbrev pub ForAnother : State → List ℕ → Type 0
ForAnother state block =
    (contents : Contents) × (reading block ≡ Ok contents) × (contents.n ≢ state.settings.n)

pub record OfferAnswers (state : State) (block : List ℕ) (answer : Result (Unit {0}) Fault) : Type 0 where
  pub setting : (answer ≡ Err Setting) ↔ (is_shut state ≡ true)
  pub length : (answer ≡ Err Length) ↔ ((is_shut state ≡ false) × (reading block ≡ Err Length))
  pub check : (answer ≡ Err Check) ↔ ((is_shut state ≡ false) × (reading block ≡ Err Check))
  pub layout :
      (answer ≡ Err Layout)
      ↔ ((is_shut state ≡ false) × ((reading block ≡ Err Layout) ⊎ ForAnother state block))
  -- a message that is carried is answered as taking it in is
  pub carried : (message : Message) → Carries state block message → TakeAnswers state message answer
  -- and the answers of taking in come only where one is carried
  pub repeat : answer ≡ Err Repeat → CarriesOne state block (IsRepeat state)
  pub clash : answer ≡ Err Clash → CarriesOne state block (IsClash state)
  pub early : answer ≡ Err Early → CarriesOne state block (LacksSome state)
  pub crossed : answer ≡ Err Crossed → CarriesOne state block (IsCrossed state)
  pub full : answer ≡ Err Full → CarriesOne state block (λ _. HasNoRoom state)
  pub done : answer ≡ Ok tt → CarriesOne state block (IsNew state)

pub record ShowAnswers (state : State) (place : ℕ) (answer : Result Entry Fault) : Type 0 where
  pub setting : (answer ≡ Err Setting) ↔ (is_shut state ≡ true)
  pub beyond :
      (answer ≡ Err NoSuchPlace)
      ↔ ((is_shut state ≡ false) × ((place ≡ 0) ⊎ (length state.roll < place)))
  pub entry :
      (found : Entry) → (answer ≡ Ok found) ↔ ((is_shut state ≡ false) × (entry_at state.roll place ≡ Some found))

-- a release is asked: the station is open, rule and tie order are for its n, and this is its board
pub record IsAsked (state : State) (rule : RuleMeaning) (order : TieMeaning) (board : Board) : Type 0 where
  pub live : is_shut state ≡ false
  pub rule_n : rule.n ≡ state.settings.n
  pub order_n : order.n ≡ state.settings.n
  pub board_is : board_at state.settings.n (known state) (released state) ≡ Ok board

pub record ReleaseAnswers (state : State) (rule : RuleMeaning) (order : TieMeaning) (answer : Result ℕ Fault) : Type 0 where
  pub setting :
      (answer ≡ Err Setting)
      ↔ ((is_shut state ≡ true) ⊎ ((rule.n ≢ state.settings.n) ⊎ (order.n ≢ state.settings.n)))
  -- the rule is open on the station's board
  pub nothing_ready :
      (answer ≡ Err NothingReady) ↔ ((board : Board) × IsAsked state rule order board × (rule.answer board ≡ None))
  -- it is settled, and the answer is how many messages the wave of the sources has
  pub done :
      (count : ℕ)
      → (answer ≡ Ok count)
      ↔ ((board : Board) × (sources : ℕ) × IsAsked state rule order board × (rule.answer board ≡ Some sources)
      × (count ≡ length (wave_from state order sources)))

-- a class from 0 to 3, and a note of at most 64 characters from 32 to 126
pub record IsWritable (class : ℕ) (note : List ℕ) : Type 0 where
  pub class_fits : class ≤ 3
  pub note_fits : length note ≤ 64
  pub characters : (place : ℕ) → place < length note → (32 ≤ byte note place) × (byte note place ≤ 126)

pub record WriteAnswers (state : State) (class : ℕ) (note block : List ℕ) (answer : Result (Unit {0}) Fault) : Type 0 where
  pub setting : (answer ≡ Err Setting) ↔ (is_shut state ≡ true)
  pub block_length : (answer ≡ Err Length) ↔ ((is_shut state ≡ false) × (length block ≢ 512))
  pub layout : (answer ≡ Err Layout) ↔ ((is_shut state ≡ false) × (length block ≡ 512) × (IsWritable class note → ⊥))
  pub full : (answer ≡ Err Full) ↔ ((is_shut state ≡ false) × (length block ≡ 512) × IsWritable class note × HasNoRoom state)
  pub done :
      (answer ≡ Ok tt) ↔ ((is_shut state ≡ false) × (length block ≡ 512) × IsWritable class note × (HasNoRoom state → ⊥))

-- the next entry to post is there, and the reply is the book's to its order bytes
abbrev pub Replies : {Held Reply : Type 0} → (Held → List ℕ → Reply × Held) → State → Held → Reply → Type 0
Replies step state held reply =
    (entry : Entry) × (is_shut state ≡ false) × (entry_at state.roll (suc state.posted) ≡ Some entry)
    × (reply ≡ (step held entry.message.order).0)

pub record PostAnswers {Held Reply : Type 0} (step : Held → List ℕ → Reply × Held) (state : State) (held : Held) (answer : Result Reply Fault) : Type 0 where
  pub setting : (answer ≡ Err Setting) ↔ (is_shut state ≡ true)
  pub nothing_to_post : (answer ≡ Err NothingToPost) ↔ ((is_shut state ≡ false) × (length state.roll ≤ state.posted))
  pub done : (reply : Reply) → (answer ≡ Ok reply) ↔ Replies step state held reply
