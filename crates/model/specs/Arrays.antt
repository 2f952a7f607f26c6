-- Heads and counts that are kept in arrays, one place for each of sixteen stations. Assumes nothing.
use Rattle.std.specs.Prelude.{◌≡◌, ℕ, zero, suc, ◌+◌, ◌≤◌, min, Bool, cond, ◌&&◌, List, map, length, take, position, unwrap_or, is_some, None, Option, slice_index, slice_index_or}
use Rattle.std.specs.List.{range_with_len}
use Rattle.board.specs.Sets.{has, set_of}
use Rattle.ties.specs.Ties.{TieMeaning}
use Rattle.wire.specs.declared.message.Message.{Message}
use Rattle.model.specs.declared.wave.Wave.{Wave}
use Rattle.model.specs.Heads.{Released, backs, ready_head}
use Rattle.model.specs.Waves.{HeadsOf, goes_before}

-- the count of a station
abbrev pub counts_by_station : List ℕ → Released
counts_by_station counts zero = 0
counts_by_station counts (suc place) = slice_index counts place

-- the head of a station
abbrev pub heads_by_station : List (Option Message) → HeadsOf
heads_by_station heads zero = None
heads_by_station heads (suc place) = slice_index_or heads place None

-- the station at the one place votes for the candidate at the other
abbrev pub votes_in : List (Option Message) → List ℕ → ℕ → ℕ → Bool
votes_in heads released voter place =
    ready_head (counts_by_station released) (slice_index_or heads place None) && backs (slice_index_or heads voter None) (slice_index_or heads place None)

abbrev pub present_in : List (Option Message) → ℕ
present_in heads = set_of (λ place. is_some (slice_index_or heads place None))

abbrev pub voters_in : List (Option Message) → List ℕ → ℕ → ℕ
voters_in heads released place = set_of (λ voter. votes_in heads released voter place)

unfoldable pub voter_sets_in : List (Option Message) → List ℕ → List ℕ
voter_sets_in heads released = map (voters_in heads released) (range_with_len 0 16)

-- a count with one more if asked for, up to the highest that two bytes hold
abbrev pub one_more_if : Bool → ℕ → ℕ
one_more_if asked count = cond asked (min (count + 1) 65535) count

-- sixteen counts, with one more for each source
unfoldable pub raised_counts : List ℕ → ℕ → List ℕ
raised_counts counts sources = map (λ place. one_more_if (has sources place) (slice_index counts place)) (range_with_len 0 16)

-- the place of a wave's list that a message is put in at: the first whose message it goes before, or the end
abbrev pub place_for : TieMeaning → ℕ → Message → List Message → ℕ
place_for order wave message messages = unwrap_or (position (goes_before order wave message) messages) (length messages)

-- the head at a place, if its station is a source
abbrev pub source_head : List (Option Message) → ℕ → ℕ → Option Message
source_head heads sources place = cond (has sources place) (slice_index_or heads place None) None

-- the messages of a wave
abbrev pub wave_messages : Wave → List Message
wave_messages wave = take wave.count wave.messages

-- a wave has at most one message of each of sixteen stations, in an array of sixteen places
pub record Sized (wave : Wave) : Type 0 where
  pub few : wave.count ≤ 16
  pub places : length wave.messages ≡ 16
