-- The messages that a station has accepted, by station and number, and what keeps a message out.
-- A list of accepted messages is in the order in which they were accepted. Assumes nothing.
use Rattle.std.specs.Prelude.{ℕ, suc, ◌+◌, Bool, false, cond, not, ◌&&◌, List, [], ◌∷◌, map, is_some, Some, None, Option, ◌==◌}
use Rattle.std.specs.List.{range_with_len}
use Rattle.board.specs.Sets.{any, some}
use Rattle.wire.specs.declared.message.Message.{Message}
use Rattle.model.specs.Following.{count_of, exceeds}

-- accepted messages by station and number
abbrev pub Accepted : Type 0
Accepted = ℕ → ℕ → Option Message

-- the message is the one of this station with this number
abbrev pub is_named : Message → ℕ → ℕ → Bool
is_named message station number = message.station == station && message.number == number

-- the first if there is one, else the second
abbrev pub or_else : Option Message → Option Message → Option Message
or_else (Some message) other = Some message
or_else None other = other

-- a list of messages by station and number, the newest first
unfoldable pub accepted_as : List Message → Accepted
accepted_as [] station number = None
accepted_as (message ∷ messages) station number =
    or_else (accepted_as messages station number) (cond (is_named message station number) (Some message) None)

-- how many messages of a list are of a station
unfoldable pub tally : List Message → ℕ → ℕ
tally [] station = 0
tally (message ∷ messages) station = cond (message.station == station) 1 0 + tally messages station

-- the same for the sixteen stations, one after another
unfoldable pub tallies : List Message → List ℕ
tallies messages = map (λ place. tally messages (suc place)) (range_with_len 0 16)

-- some message of the station at a place that the message follows is not accepted
abbrev pub lacks : Accepted → Message → ℕ → Bool
lacks accepted message place =
    some (λ before. not (is_some (accepted (suc place) (suc before)))) (count_of message (suc place))

-- early: something that the message follows is not accepted
abbrev pub early : Accepted → Message → Bool
early accepted message = any (lacks accepted message)

-- a message, if there is one, has a larger count for some station
abbrev pub some_exceeds : Option Message → Message → Bool
some_exceeds (Some other) message = exceeds other message
some_exceeds None message = false

-- the last message of the station at a place that the message follows has a larger count for some station
abbrev pub is_crossed_by : Accepted → Message → ℕ → Bool
is_crossed_by accepted message place =
    not (count_of message (suc place) == 0)
    && some_exceeds (accepted (suc place) (count_of message (suc place))) message

-- crossed: so it is for some station
abbrev pub crossed : Accepted → Message → Bool
crossed accepted message = any (is_crossed_by accepted message)
