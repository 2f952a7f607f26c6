use Rattle.std.proofs.Common.{◌≡◌, false, slice_index_or}
use Rattle.board.specs.Sets.{mask}
use Rattle.board.proofs.sets.set_of.Given as goal

-- so far the set has the places that pass
abbrev pub invariant-loop-place : goal.invariant-loop-place
invariant-loop-place l = l.set ≡ mask (λ place. slice_index_or l.passes place false) l.place
