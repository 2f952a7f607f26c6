use Rattle.std.proofs.Common.{ap, sym}
use Rattle.std.proofs.Output.{has_written_of_eq}
use Rattle.books.specs.CabinWords.{slot_words}
use Rattle.books.proofs.cabin.SlotDisplay.fmt.Goals as goal

pub returns-in-Assigned-clause-writes : goal.returns-in-Assigned-clause-writes
returns-in-Assigned-clause-writes g c = λ plain ok. has_written_of_eq _ _ _ _ _ (ap slot_words (sym c.in-Assigned.is)) (c.write-in-Assigned.ensures.writes plain ok)
