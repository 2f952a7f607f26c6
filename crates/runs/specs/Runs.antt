-- A run: a station is opened, and then called any number of times. Assumes nothing.
use Rattle.std.specs.Prelude.{◌≡◌, ℕ, suc, ◌+◌, cond, List, [], ◌∷◌, ◌++◌, length, Some, Ok, Err, Result, ◌==◌}
use Rattle.std.specs.List.{slice_get}
use Rattle.board.specs.Rules.{RuleMeaning}
use Rattle.board.specs.Rules as rules
use Rattle.ties.specs.Ties.{TieMeaning}
use Rattle.ties.specs.Ties as ties
use Rattle.wire.specs.Faults.{numbered}
use Rattle.wire.specs.Format.{Contents, reading}
use Rattle.wire.specs.declared.fault.Fault.{Fault}
use Rattle.wire.specs.declared.fault.Fault.TheVariants.{NothingReady, Setting}
use Rattle.wire.specs.declared.message.Message.{Message}
use Rattle.model.specs.declared.entry.Entry.{Entry}
use Rattle.model.specs.Calls.{next_message, offer_of, opened, post_of, posted_book, release_of, show_of, write_of}
use Rattle.model.specs.States.{Settings, State}
use Rattle.model.specs.Waves.{On}

-- A call of an opened station with all that it is given: any bytes, any lawful rule and any lawful tie order.
pub data Call : Type 0 where
  -- class, order bytes, note, and the block to fill
  write : ℕ → List ℕ → List ℕ → List ℕ → Call
  -- the block
  offer : List ℕ → Call
  release : (rule : RuleMeaning) → rules.Lawful rule → (order : TieMeaning) → ties.Lawful order → Call
  post : Call
  -- the place
  show : ℕ → Call

-- what a book does: from what it holds and eight order bytes to a reply and what it holds next
abbrev pub Step : Type 0 → Type 0 → Type 0
Step Held Reply = Held → List ℕ → Reply × Held

-- a moment of a run: the state that the station stands for, what the book holds, and the replies that it has
-- given to posts, in order
pub record Moment (Held Reply : Type 0) : Type 0 where
  pub state : State
  pub held : Held
  pub replies : List Reply

-- one more reply, unless the post was refused
abbrev pub replied : {Reply : Type 0} → List Reply → Result Reply Fault → List Reply
replied replies (Ok reply) = replies ++ reply ∷ []
replied replies (Err fault) = replies

-- the moment after a call
abbrev pub call_next : {Held Reply : Type 0} → Step Held Reply → Moment Held Reply → Call → Moment Held Reply
call_next step at (write class order note block) =
    record { state = (write_of at.state class order note block).next; held = at.held; replies = at.replies }
call_next step at (offer block) =
    record { state = (offer_of at.state block).next; held = at.held; replies = at.replies }
call_next step at (release rule lawful order orderly) =
    record { state = (release_of at.state rule order).next; held = at.held; replies = at.replies }
call_next step at post =
    record {
      state = (post_of step at.state at.held).next;
      held = posted_book step at.state at.held;
      replies = replied at.replies (post_of step at.state at.held).answer;
    }
call_next step at (show place) =
    record { state = (show_of at.state place).next; held = at.held; replies = at.replies }

-- the moment after a list of calls
unfoldable pub after : {Held Reply : Type 0} → Step Held Reply → Moment Held Reply → List Call → Moment Held Reply
after step at [] = at
after step at (call ∷ calls) = after step (call_next step at call) calls

-- an opening, with any settings, the book at the start, and the calls of the day
pub record Run (Held Reply : Type 0) : Type 0 where
  pub settings : Settings
  pub step : Step Held Reply
  pub start : Held
  pub calls : List Call

-- the moment at which a run begins
abbrev pub beginning : {Held Reply : Type 0} → Run Held Reply → Moment Held Reply
beginning run = record { state = opened run.settings; held = run.start; replies = [] }

-- the moment of a run after the first of its calls
abbrev pub moment : {Held Reply : Type 0} → Run Held Reply → List Call → Moment Held Reply
moment run calls = after run.step (beginning run) calls

abbrev pub state_at : {Held Reply : Type 0} → Run Held Reply → List Call → State
state_at run calls = (moment run calls).state

-- What happened in a run.

-- the message of a call, unless the call was refused
abbrev pub if_done : Result (Unit {0}) Fault → List Message → List Message
if_done (Ok done) messages = messages
if_done (Err fault) messages = []

-- the message of a block that reads well
abbrev pub carried : Result Contents Fault → List Message
carried (Ok contents) = contents.message ∷ []
carried (Err fault) = []

-- the message that a call accepts, if it does: that of a write that is not refused is the one it makes, and
-- that of an offer the one that its block carries
abbrev pub accepted_by : State → Call → List Message
accepted_by state (write class order note block) =
    if_done (write_of state class order note block).answer (next_message state class order ∷ [])
accepted_by state (offer block) = if_done (offer_of state block).answer (carried (reading block))
accepted_by state (release rule lawful order orderly) = []
accepted_by state post = []
accepted_by state (show place) = []

-- the messages that some calls accept, the first of them made at a moment
unfoldable pub accepted_in : {Held Reply : Type 0} → Step Held Reply → Moment Held Reply → List Call → List Message
accepted_in step at [] = []
accepted_in step at (call ∷ calls) = accepted_by at.state call ++ accepted_in step (call_next step at call) calls

-- a message was accepted among the first calls of a run
abbrev pub HasAccepted : {Held Reply : Type 0} → Run Held Reply → List Call → Message → Type 0
HasAccepted run calls message = On message (accepted_in run.step (beginning run) calls)

-- a rule and a tie order were given to a release of the run that was not answered 12
pub record WasGiven {Held Reply : Type 0} (run : Run Held Reply) (rule : RuleMeaning) (order : TieMeaning) : Type 0 where
  pub before : List Call
  pub lawful : rules.Lawful rule
  pub orderly : ties.Lawful order
  pub later : List Call
  pub there : run.calls ≡ before ++ release rule lawful order orderly ∷ later
  pub counts : (release_of (state_at run before) rule order).answer ≡ Err Setting → ⊥

-- since its last acceptance among the first calls the station was told that nothing is ready
pub record IsQuiet {Held Reply : Type 0} (run : Run Held Reply) (calls : List Call) : Type 0 where
  pub before : List Call
  pub rule : RuleMeaning
  pub lawful : rules.Lawful rule
  pub order : TieMeaning
  pub orderly : ties.Lawful order
  pub later : List Call
  pub there : calls ≡ before ++ release rule lawful order orderly ∷ later
  pub nothing_ready : (release_of (state_at run before) rule order).answer ≡ Err NothingReady
  pub none_since : accepted_in run.step (moment run (before ++ release rule lawful order orderly ∷ [])) later ≡ []

-- a list of entries is the roll of a station: what show gives at places 1, 2 and on to the first refusal
pub record IsRoll (state : State) (entries : List Entry) : Type 0 where
  pub shown : (before : ℕ) (entry : Entry) → slice_get entries before ≡ Some entry → (show_of state (suc before)).answer ≡ Ok entry
  pub refused : (fault : Fault) × ((show_of state (suc (length entries))).answer ≡ Err fault)

-- how many of some calls, the first of them made at a moment, are posts that are not refused
abbrev pub one_if_done : {Answer : Type 0} → Result Answer Fault → ℕ
one_if_done (Ok answer) = 1
one_if_done (Err fault) = 0

abbrev pub post_count : {Held Reply : Type 0} → Step Held Reply → Moment Held Reply → Call → ℕ
post_count step at (write class order note block) = 0
post_count step at (offer block) = 0
post_count step at (release rule lawful order orderly) = 0
post_count step at post = one_if_done (post_of step at.state at.held).answer
post_count step at (show place) = 0

unfoldable pub posts : {Held Reply : Type 0} → Step Held Reply → Moment Held Reply → List Call → ℕ
posts step at [] = 0
posts step at (call ∷ calls) = post_count step at call + posts step (call_next step at call) calls

-- and how many are releases that are not answered 12
abbrev pub one_unless_setting : {Answer : Type 0} → Result Answer Fault → ℕ
one_unless_setting (Ok answer) = 1
one_unless_setting (Err fault) = cond (numbered fault == 12) 0 1

abbrev pub release_count : State → Call → ℕ
release_count state (write class order note block) = 0
release_count state (offer block) = 0
release_count state (release rule lawful order orderly) = one_unless_setting (release_of state rule order).answer
release_count state post = 0
release_count state (show place) = 0

unfoldable pub releases : {Held Reply : Type 0} → Step Held Reply → Moment Held Reply → List Call → ℕ
releases step at [] = 0
releases step at (call ∷ calls) = release_count at.state call + releases step (call_next step at call) calls
