use Rattle.std.proofs.Common.{◌≡◌, ℕ, suc, ◌<◌, length, get_or, None}
use Rattle.model.specs.Heads.{head}
use Rattle.model.specs.States.{known, released}
use Rattle.station.specs.Standing.{state_of_station}
use Rattle.station.proofs.station.open.Open.heads.Given as goal

-- the heads so far, of sixteen
abbrev pub invariant-loop-place : goal.invariant-loop-place
invariant-loop-place l =
    (length l.head-items ≡ 16)
    × ((k : ℕ) → k < l.place
    → get_or l.head-items k None ≡ head (known (state_of_station l.self.station.now)) (released (state_of_station l.self.station.now)) (suc k))
