-- When a station may lead. Assumes nothing.
use Rattle.std.specs.Prelude.{ℕ, Bool, ◌&&◌, nat_le}
use Rattle.board.specs.Ballots.{is_group}

-- a group of n, and one of its stations
abbrev pub may_lead : ℕ → ℕ → Bool
may_lead n station = is_group n && (nat_le 1 station && nat_le station n)
