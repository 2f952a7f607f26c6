use Rattle.std.proofs.Common.{◌≡◌, length}
use Rattle.daysheet.proofs.main.Given as goal

-- the buffer keeps the length of a block
abbrev pub invariant-loop-turn : goal.invariant-loop-turn
invariant-loop-turn l = length l.block ≡ 512
