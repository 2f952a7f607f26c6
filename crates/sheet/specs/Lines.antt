-- The lines of daysheet: numbers in shortest decimal, one space between, a line feed. Assumes nothing.
use Rattle.std.specs.Prelude.{ℕ, List, ◌++◌, Some, None, Ok, Err, codes, decimal, Option, Result}
use Rattle.wire.specs.declared.fault.Fault.{Fault}
use Rattle.wire.specs.Faults.{numbered}
use Rattle.wire.specs.Format.{Contents, reading}
use Rattle.sheet.specs.declared.Line.{Line}
use Rattle.sheet.specs.declared.Line.TheVariants.{Released, Refused}

-- `wave station number` for a released message, `refused` and the number for a refusal
abbrev pub line_bytes : Line → List ℕ
line_bytes (Released wave station number) =
    decimal wave ++ (codes " " ++ (decimal station ++ (codes " " ++ (decimal number ++ codes "\n"))))
line_bytes (Refused fault) = codes "refused " ++ (decimal (numbered fault) ++ codes "\n")

-- reading's refusal, and nothing else of what was read
abbrev pub taken : Result Contents Fault → Result (Unit {0}) Fault
taken (Ok contents) = Ok tt
taken (Err fault) = Err fault

abbrev pub taking : List ℕ → Result (Unit {0}) Fault
taking block = taken (reading block)

-- a refused block brings a line, any other none
abbrev pub line_of : Result (Unit {0}) Fault → Option Line
line_of (Ok done) = None
line_of (Err fault) = Some (Refused fault)

abbrev pub line_for : List ℕ → Option Line
line_for block = line_of (taking block)
