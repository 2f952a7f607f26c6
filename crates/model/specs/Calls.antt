-- The six calls of a station: what each answers, and what it leaves. Assumes nothing.
use Rattle.std.specs.Prelude.{ℕ, suc, Bool, cond, ◌&&◌, List, [], map, length, Some, None, Ok, Err, Option, Result, ◌==◌, nat_le}
use Rattle.board.specs.Rules.{RuleMeaning}
use Rattle.board.specs.declared.board.Board.{Board}
use Rattle.ties.specs.Ties.{TieMeaning}
use Rattle.wire.specs.Format.{Contents, block_of, noted, reading}
use Rattle.wire.specs.declared.fault.Fault.{Fault}
use Rattle.wire.specs.declared.fault.Fault.TheVariants.{Length, Layout, Repeat, Clash, Early, Crossed, Full, NothingReady, NothingToPost, NoSuchPlace, Setting}
use Rattle.wire.specs.declared.message.Message.{Message}
use Rattle.model.specs.declared.entry.Entry.{Entry}
use Rattle.model.specs.Accepted.{crossed, early, tallies, tally}
use Rattle.model.specs.Following.{alike}
use Rattle.model.specs.Heads.{board_at, head}
use Rattle.model.specs.States.{Settings, State, accepting, entry_at, is_full, is_shut, known, last_wave, may_open, posting, released, releasing}
use Rattle.model.specs.Waves.{wave_of}

-- what a call answers, and the state it leaves
pub record Outcome (Answer : Type 0) : Type 0 where
  pub answer : Result Answer Fault
  pub next : State

-- the outcome of what was decided: a refusal leaves the state as it was
abbrev pub outcome : {Decided Answer : Type 0} → State → Result Decided Fault → (Decided → Answer) → (Decided → State) → Outcome Answer
outcome state (Ok decided) tell leave = record { answer = Ok (tell decided); next = leave decided }
outcome state (Err fault) tell leave = record { answer = Err fault; next = state }

-- a shut station refuses every call as a setting, before anything else
abbrev pub unless_shut : {Decided : Type 0} → State → Result Decided Fault → Result Decided Fault
unless_shut state decided = cond (is_shut state) (Err Setting) decided

-- Open: the question, and the state that a station is made in. A station may be made against the answer.

abbrev pub open_answer : Settings → Result (Unit {0}) Fault
open_answer settings = cond (may_open settings) (Ok tt) (Err Setting)

abbrev pub opened : Settings → State
opened settings = record { settings = settings; accepted = []; roll = []; posted = 0 }

-- Offer.

-- a message under the number of one that is accepted is repeated, or clashes with it
abbrev pub again : Message → Message → Result Message Fault
again message other = cond (alike message other) (Err Repeat) (Err Clash)

-- a new message may be early, then crossed, then one too many
abbrev pub fresh : State → Message → Result Message Fault
fresh state message =
    cond (early (known state) message) (Err Early)
    (cond (crossed (known state) message) (Err Crossed)
    (cond (is_full state) (Err Full) (Ok message)))

abbrev pub taken : State → Message → Option Message → Result Message Fault
taken state message (Some other) = again message other
taken state message None = fresh state message

-- taking in a message that is well formed for the group: repeat and clash come first
abbrev pub take_decided : State → Message → Result Message Fault
take_decided state message = taken state message (known state message.station message.number)

abbrev pub take_of : State → Message → Outcome (Unit {0})
take_of state message = outcome state (take_decided state message) (λ _. tt) (accepting state)

-- what a block carries that was read: its n must be the station's
abbrev pub for_group : State → Result Contents Fault → Result Message Fault
for_group state (Ok contents) = cond (contents.n == state.settings.n) (Ok contents.message) (Err Layout)
for_group state (Err fault) = Err fault

abbrev pub carried_message : State → List ℕ → Result Message Fault
carried_message state block = unless_shut state (for_group state (reading block))

-- the message that it carries is taken in
abbrev pub take_carried : State → Result Message Fault → Result Message Fault
take_carried state (Ok message) = take_decided state message
take_carried state (Err fault) = Err fault

abbrev pub offer_decided : State → List ℕ → Result Message Fault
offer_decided state block = take_carried state (carried_message state block)

abbrev pub offer_of : State → List ℕ → Outcome (Unit {0})
offer_of state block = outcome state (offer_decided state block) (λ _. tt) (accepting state)

-- Write.

-- the own station's next message: it follows all that is accepted
abbrev pub next_message : State → ℕ → List ℕ → Message
next_message state class order =
    record {
      station = state.settings.own;
      number = suc (tally state.accepted state.settings.own);
      after = tallies state.accepted;
      class = class;
      order = order;
    }

-- a class from 0 to 3, and a note of at most 64 characters from 32 to 126
abbrev pub may_write : ℕ → List ℕ → Bool
may_write class note = nat_le class 3 && noted note

abbrev pub write_decided : State → ℕ → List ℕ → List ℕ → List ℕ → Result Message Fault
write_decided state class order note block =
    unless_shut state
    (cond (length block == 512)
    (cond (may_write class note)
    (cond (is_full state) (Err Full) (Ok (next_message state class order)))
    (Err Layout))
    (Err Length))

abbrev pub write_of : State → ℕ → List ℕ → List ℕ → List ℕ → Outcome (Unit {0})
write_of state class order note block =
    outcome state (write_decided state class order note block) (λ _. tt) (accepting state)

-- what the lent block then holds: the block of the message, at a refusal what it held
abbrev pub block_left : State → List ℕ → List ℕ → Result Message Fault → List ℕ
block_left state note block (Ok message) = block_of state.settings.n message note
block_left state note block (Err fault) = block

abbrev pub written_block : State → ℕ → List ℕ → List ℕ → List ℕ → List ℕ
written_block state class order note block =
    block_left state note block (write_decided state class order note block)

-- Release.

-- the wave with its number
abbrev pub as_entries : ℕ → List Message → List Entry
as_entries wave messages = map (λ message. record { wave = wave; message = message }) messages

-- the number of the wave to come
abbrev pub next_wave : State → ℕ
next_wave state = suc (last_wave state.roll)

abbrev pub wave_from : State → TieMeaning → ℕ → List Entry
wave_from state order sources =
    as_entries (next_wave state) (wave_of order (next_wave state) (head (known state) (released state)) sources)

-- the rule's answer: open is nothing ready, settled gives the wave of the sources
abbrev pub settled_wave : State → TieMeaning → Option ℕ → Result (List Entry) Fault
settled_wave state order (Some sources) = Ok (wave_from state order sources)
settled_wave state order None = Err NothingReady

-- the rule is shown the station's board; a station that calls have led to always has one
abbrev pub shown_board : State → RuleMeaning → TieMeaning → Result Board Fault → Result (List Entry) Fault
shown_board state rule order (Ok board) = settled_wave state order (rule.answer board)
shown_board state rule order (Err fault) = Err fault

abbrev pub release_decided : State → RuleMeaning → TieMeaning → Result (List Entry) Fault
release_decided state rule order =
    unless_shut state
    (cond (rule.n == state.settings.n && order.n == state.settings.n)
    (shown_board state rule order (board_at state.settings.n (known state) (released state)))
    (Err Setting))

-- it answers how many messages went on the roll
abbrev pub release_of : State → RuleMeaning → TieMeaning → Outcome ℕ
release_of state rule order = outcome state (release_decided state rule order) length (releasing state)

-- Post.

-- the next entry of the roll that is not posted
abbrev pub to_post : Option Entry → Result Entry Fault
to_post (Some entry) = Ok entry
to_post None = Err NothingToPost

abbrev pub post_decided : State → Result Entry Fault
post_decided state = unless_shut state (to_post (entry_at state.roll (suc state.posted)))

-- the book's step is taken once, with the order bytes of that entry; the answer is the book's reply
abbrev pub post_of : {Held Reply : Type 0} → (Held → List ℕ → Reply × Held) → State → Held → Outcome Reply
post_of step state held =
    outcome state (post_decided state) (λ entry. (step held entry.message.order).0) (λ _. posting state)

-- what the book then holds: at a refusal what it held
abbrev pub held_left : {Held Reply : Type 0} → (Held → List ℕ → Reply × Held) → Held → Result Entry Fault → Held
held_left step held (Ok entry) = (step held entry.message.order).1
held_left step held (Err fault) = held

abbrev pub posted_book : {Held Reply : Type 0} → (Held → List ℕ → Reply × Held) → State → Held → Held
posted_book step state held = held_left step held (post_decided state)

-- Show.

abbrev pub shown_entry : Option Entry → Result Entry Fault
shown_entry (Some entry) = Ok entry
shown_entry None = Err NoSuchPlace

abbrev pub show_decided : State → ℕ → Result Entry Fault
show_decided state place = unless_shut state (shown_entry (entry_at state.roll place))

abbrev pub show_of : State → ℕ → Outcome Entry
show_of state place = outcome state (show_decided state place) (λ entry. entry) (λ _. state)
