use Rattle.std.proofs.Common.{◌≡◌, ◌*◌, ◌≤◌}
use Rattle.wire.specs.Words.{sum_below}
use Rattle.wire.specs.Format.{weighted}
use Rattle.wire.proofs.check.sum.Given as goal

-- the sum so far, and its bound: no term is above 508 × 255
abbrev pub invariant-loop-place : goal.invariant-loop-place
invariant-loop-place l =
    (l.sum ≡ sum_below l.place (weighted l.fn.block)) × (l.sum ≤ l.place * 129540)
