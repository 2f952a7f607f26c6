-- The promise: no two stations of a group can be found out of step. Assumes nothing.
use Rattle.std.specs.Prelude.{◌≡◌, ℕ, suc, ◌+◌, ◌≤◌, Bool, true, cond, not, ◌&&◌, ◌⊎◌, ◌↔◌, List, [], ◌∷◌, ◌++◌, length, is_some, ◌≢◌}
use Rattle.rules.specs.Piles.{PilesAreLawful}
use Rattle.wire.specs.declared.message.Message.{Message}
use Rattle.model.specs.declared.entry.Entry.{Entry}
use Rattle.model.specs.Accepted.{accepted_as, is_named}
use Rattle.model.specs.Following.{follows}
use Rattle.model.specs.States.{State, is_shut, on_roll}
use Rattle.model.specs.Waves.{On}
use Rattle.runs.specs.Groups.{OneGroup}
use Rattle.runs.specs.Runs.{Call, HasAccepted, IsQuiet, IsRoll, Run, accepted_in, beginning, moment, posts, releases, state_at}

-- a list is a beginning of another
abbrev pub Begins : List Entry → List Entry → Type 0
Begins entries others = (rest : List Entry) × (others ≡ entries ++ rest)

-- Rolls in step: at each moment of one run and each moment of another of its group, one roll is a beginning of
-- the other.
abbrev pub RollsInStep : Type 0 → Type 0 → Type 0
RollsInStep Held Reply =
    (run other : Run Held Reply) → OneGroup run other
    → (calls later calls' later' : List Call) → run.calls ≡ calls ++ later → other.calls ≡ calls' ++ later'
    → (entries entries' : List Entry) → IsRoll (state_at run calls) entries → IsRoll (state_at other calls') entries'
    → Begins entries entries' ⊎ Begins entries' entries

-- And after equally many successful posts both books hold the same, and have given the same replies.
abbrev pub BooksInStep : Type 0 → Type 0 → Type 0
BooksInStep Held Reply =
    (run other : Run Held Reply) → OneGroup run other
    → (calls later calls' later' : List Call) → run.calls ≡ calls ++ later → other.calls ≡ calls' ++ later'
    → posts run.step (beginning run) calls ≡ posts other.step (beginning other) calls'
    → ((moment run calls).held ≡ (moment other calls').held) × ((moment run calls).replies ≡ (moment other calls').replies)

-- Equal when quiet: with the same accepted messages, in whatever order they came, and "nothing ready" since, the
-- rolls are equal.
abbrev pub EqualWhenQuiet : Type 0 → Type 0 → Type 0
EqualWhenQuiet Held Reply =
    (run other : Run Held Reply) → OneGroup run other
    → (calls later calls' later' : List Call) → run.calls ≡ calls ++ later → other.calls ≡ calls' ++ later'
    → ((message : Message) → HasAccepted run calls message ↔ HasAccepted other calls' message)
    → IsQuiet run calls → IsQuiet other calls'
    → (entries entries' : List Entry) → IsRoll (state_at run calls) entries → IsRoll (state_at other calls') entries'
    → entries ≡ entries'

-- The waiting bound: a message that every other station already follows is on the roll after one more release
-- not answered 12 than there are others waiting with it.

-- every station of the group but the message's own has an accepted message that follows it
abbrev pub FollowedByAll : {Held Reply : Type 0} → Run Held Reply → List Call → Message → Type 0
FollowedByAll run calls message =
    (station : ℕ) → 1 ≤ station → station ≤ run.settings.n → (station ≢ message.station)
    → (other : Message) × HasAccepted run calls other × (other.station ≡ station) × (follows other message ≡ true)

-- a message is on a roll
abbrev pub is_on : List Entry → Message → Bool
is_on entries message = is_some (accepted_as (on_roll entries) message.station message.number)

-- another message is not on the roll, and does not follow it
abbrev pub waits_with : List Entry → Message → Message → Bool
waits_with entries message other =
    not (is_named other message.station message.number) && (not (is_on entries other) && not (follows other message))

-- how many messages of a list pass a test
unfoldable pub how_many : (Message → Bool) → List Message → ℕ
how_many test [] = 0
how_many test (message ∷ messages) = cond (test message) 1 0 + how_many test messages

-- q: how many of the other messages that were accepted wait with it
abbrev pub waiting : {Held Reply : Type 0} → Run Held Reply → List Call → List Entry → Message → ℕ
waiting run calls entries message = how_many (waits_with entries message) (accepted_in run.step (beginning run) calls)

abbrev pub WaitingBound : Type 0 → Type 0 → Type 0
WaitingBound Held Reply =
    (run : Run Held Reply) (calls between : List Call) (message : Message) (entries entries' : List Entry)
    → HasAccepted run calls message
    → IsRoll (state_at run calls) entries → (On message (on_roll entries) → ⊥)
    → FollowedByAll run calls message
    → suc (waiting run calls entries message) ≤ releases run.step (moment run calls) between
    → IsRoll (state_at run (calls ++ between)) entries' → On message (on_roll entries')

-- What runs are told in is what their states hold.

-- a shut station shows no entry, and an open one all of its roll
abbrev pub roll_of : State → List Entry
roll_of state = cond (is_shut state) [] state.roll

pub record ToldByStates (Held Reply : Type 0) : Type 0 where
  pub accepted : (run : Run Held Reply) (calls : List Call) → accepted_in run.step (beginning run) calls ≡ (state_at run calls).accepted
  pub roll : (state : State) → IsRoll state (roll_of state)
  pub one_roll : (state : State) (entries : List Entry) → IsRoll state entries → entries ≡ roll_of state
  pub posted : (run : Run Held Reply) (calls : List Call) → posts run.step (beginning run) calls ≡ (state_at run calls).posted
  pub replied :
      (run : Run Held Reply) (calls : List Call) → length (moment run calls).replies ≡ posts run.step (beginning run) calls

-- The whole promise: for every type of book, for all runs, so for every lawful rule and every lawful tie order at
-- each release; every pile of thresholds over a lawful rule is such a rule.
pub record Promise (Held Reply : Type 0) : Type 0 where
  pub rolls_in_step : RollsInStep Held Reply
  pub books_in_step : BooksInStep Held Reply
  pub equal_when_quiet : EqualWhenQuiet Held Reply
  pub waiting_bound : WaitingBound Held Reply
  pub piles : PilesAreLawful
  pub told : ToldByStates Held Reply
