use Rattle.std.proofs.Common.{◌≤◌, length}
use Rattle.daysheet.proofs.read_block.Given as goal

-- what came fits the block
abbrev pub invariant-loop : goal.invariant-loop
invariant-loop g l = l.filled ≤ length l.block
