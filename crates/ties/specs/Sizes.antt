-- Sizes of groups: 1 to 16, any other number is refused as a setting. Assumes nothing.
use Rattle.std.specs.Prelude.{ℕ, cond, Ok, Err, Result}
use Rattle.wire.specs.declared.fault.Fault.{Fault}
use Rattle.wire.specs.declared.fault.Fault.TheVariants.{Setting}
use Rattle.wire.specs.Messages.{is_group}
use Rattle.ties.specs.declared.size.Size.{Size}

abbrev pub made_for : ℕ → Result ℕ Fault
made_for n = cond (is_group n) (Ok n) (Err Setting)

-- the answer by the number it holds
abbrev pub size_of : Result Size Fault → Result ℕ Fault
size_of (Ok size) = Ok size.n
size_of (Err fault) = Err fault
