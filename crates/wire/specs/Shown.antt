-- A reading by value: its note as the bytes that the borrowed part holds. Assumes nothing.
use Rattle.std.specs.Prelude.{ℕ, List, Ok, Err, Result}
use Rattle.std.specs.Borrow.{Bor}
use Rattle.wire.specs.declared.reading.Reading.{Reading}
use Rattle.wire.specs.declared.fault.Fault.{Fault}
use Rattle.wire.specs.Format.{Contents}

abbrev pub part_told : Result (Bor (List ℕ)) Fault → Result (List ℕ) Fault
part_told (Ok part) = Ok part.now
part_told (Err fault) = Err fault

abbrev pub told : Result Reading Fault → Result Contents Fault
told (Ok reading) = Ok (record { n = reading.n; message = reading.message; note = reading.note.now })
told (Err fault) = Err fault
