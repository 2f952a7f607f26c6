use Rattle.std.proofs.Common.{◌≡◌, ◌≤◌, length, take}
use Rattle.model.specs.Arrays.{heads_by_station}
use Rattle.model.specs.Waves.{heads_below, in_order}
use Rattle.model.proofs.ranking.wave_of.Given as goal

-- the heads so far, in order
abbrev pub invariant-loop-place : goal.invariant-loop-place
invariant-loop-place g l =
    (take l.count l.messages ≡ in_order (g.T.TieOrder.means l.order) l.wave (heads_below (heads_by_station l.heads) l.sources l.place))
    × (l.count ≤ l.place) × (length l.messages ≡ 16)
