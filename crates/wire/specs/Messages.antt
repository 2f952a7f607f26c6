-- When a message is well formed for a group of n stations. Assumes nothing.
use Rattle.std.specs.Prelude.{◌≡◌, ℕ, ◌-◌, Bool, ◌&&◌, List, length, drop, ◌==◌, nat_le, slice_index}
use Rattle.wire.specs.declared.message.Message.{Message}
use Rattle.wire.specs.Words.{all_within}

-- a group has 1 to 16 stations
abbrev pub is_group : ℕ → Bool
is_group n = nat_le 1 n && nat_le n 16

-- how many messages of station j the message follows; stations count from 1
abbrev pub count : Message → ℕ → ℕ
count message station = slice_index message.after (station - 1)

-- what the type of a message says: sixteen counts, and eight order bytes
abbrev pub Shaped : Message → Type 0
Shaped message = (length message.after ≡ 16) × (length message.order ≡ 8)

-- every count from 0 to 4,096, and nothing of stations that are not there
abbrev pub counts_fit : ℕ → List ℕ → Bool
counts_fit n after = all_within 0 4096 after && all_within 0 0 (drop n after)

abbrev pub well_formed : ℕ → Message → Bool
well_formed n message =
    -- the group has at most 16 stations, and the message is of one of them
    nat_le n 16 && (nat_le 1 message.station && (nat_le message.station n
    -- numbers run from 1 to 4,096, and classes from 0 to 3
    && (nat_le 1 message.number && (nat_le message.number 4096 && (nat_le message.class 3
    -- it follows all that its own station said before
    && (count message message.station == message.number - 1
    && counts_fit n message.after))))))
