-- Heads, candidates, votes and the board of a station, over any accepted messages and any released counts.
-- Assumes nothing.
use Rattle.std.specs.Prelude.{ℕ, suc, Bool, false, ◌&&◌, ◌||◌, List, map, is_some, Some, None, Option, Result, ◌==◌, nat_le}
use Rattle.std.specs.List.{range_with_len}
use Rattle.board.specs.Boards.{board_of}
use Rattle.board.specs.Sets.{every, set_of}
use Rattle.board.specs.declared.board.Board.{Board}
use Rattle.wire.specs.declared.fault.Fault.{Fault}
use Rattle.wire.specs.declared.message.Message.{Message}
use Rattle.model.specs.Accepted.{Accepted}
use Rattle.model.specs.Following.{count_of, follows}

-- how many messages of each station are released: a station's messages 1 up to that count
abbrev pub Released : Type 0
Released = ℕ → ℕ

-- a station's head: its first accepted message that is not yet released
abbrev pub head : Accepted → Released → ℕ → Option Message
head accepted released station = accepted station (suc (released station))

-- a station with a head is present
abbrev pub is_present : Accepted → Released → ℕ → Bool
is_present accepted released station = is_some (head accepted released station)

-- all that a message follows is released
abbrev pub is_ready : Released → Message → Bool
is_ready released message = every (λ place. nat_le (count_of message (suc place)) (released (suc place)))

-- a head is a candidate when all that it follows is released
abbrev pub ready_head : Released → Option Message → Bool
ready_head released (Some message) = is_ready released message
ready_head released None = false

abbrev pub is_candidate : Accepted → Released → ℕ → Bool
is_candidate accepted released station = ready_head released (head accepted released station)

-- the first head is the second one, or follows it
abbrev pub backs : Option Message → Option Message → Bool
backs (Some own) (Some other) = own.station == other.station || follows own other
backs (Some own) None = false
backs None other = false

-- a present station votes for its own candidate, and for each candidate that its head follows
abbrev pub votes : Accepted → Released → ℕ → ℕ → Bool
votes accepted released voter station =
    is_candidate accepted released station
    && backs (head accepted released voter) (head accepted released station)

-- the stations that are present, and for each of sixteen stations those that vote for its candidate
abbrev pub present_set : Accepted → Released → ℕ
present_set accepted released = set_of (λ place. is_present accepted released (suc place))

abbrev pub voters_of : Accepted → Released → ℕ → ℕ
voters_of accepted released place = set_of (λ voter. votes accepted released (suc voter) (suc place))

unfoldable pub voter_sets : Accepted → Released → List ℕ
voter_sets accepted released = map (voters_of accepted released) (range_with_len 0 16)

-- the board of a group of n
abbrev pub board_at : ℕ → Accepted → Released → Result Board Fault
board_at n accepted released = board_of n (present_set accepted released) (voter_sets accepted released)
