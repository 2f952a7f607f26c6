-- What sets must hold to be a board. Assumes nothing.
use Rattle.std.specs.Prelude.{ℕ, Bool, not, ◌&&◌, List, length, ◌==◌, slice_index}
use Rattle.board.specs.Sets.{has, implies, every, any, set_of, within, up_to}
-- a group has 1 to 16 stations, as the blocks say
pub use Rattle.wire.specs.Messages.{is_group}

-- the stations that vote for the candidate of the station at a place: none where it has no candidate
abbrev pub votes_for : List ℕ → ℕ → ℕ
votes_for voters place = slice_index voters place

-- the station at a place has a candidate: somebody votes for it
abbrev pub has_candidate : List ℕ → ℕ → Bool
has_candidate voters place = not (votes_for voters place == 0)

-- a candidate's station votes for it
abbrev pub votes_for_itself : List ℕ → ℕ → Bool
votes_for_itself voters place = implies (has_candidate voters place) (has (votes_for voters place) place)

-- only present stations vote for it
abbrev pub present_vote : ℕ → List ℕ → ℕ → Bool
present_vote present voters place = within (votes_for voters place) present

-- a present station votes for some candidate
abbrev pub votes : ℕ → List ℕ → ℕ → Bool
votes present voters place = implies (has present place) (any (λ candidate. has (votes_for voters candidate) place))

-- the stations that vote for some candidate
abbrev pub voting_set : List ℕ → ℕ
voting_set voters = set_of (λ voter. any (λ candidate. has (votes_for voters candidate) voter))

-- what holds of the voters at one place: they are stations 1 to n and present, and the place's own
-- station is one of them if there are any
abbrev pub fair : ℕ → ℕ → List ℕ → ℕ → Bool
fair n present voters place =
    up_to n (votes_for voters place) && (present_vote present voters place && votes_for_itself voters place)

-- the present stations and the voters of each of sixteen stations are a board of n
abbrev pub is_board : ℕ → ℕ → List ℕ → Bool
is_board n present voters =
    (length voters == 16) && (up_to n present
    && (every (fair n present voters) && every (votes present voters)))
