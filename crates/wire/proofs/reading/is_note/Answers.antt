use Rattle.std.proofs.Common.{◌≡◌, ◌&&◌, leb, arith, rules}
use borrow.Author.Tests.{tests}
use Rattle.std.proofs.lemmas.Bool.Decides.{nat_tests}
use Rattle.std.proofs.lemmas.Iterator.{YieldsList-from_slice}
use Rattle.std.proofs.lemmas.Iterator.Search.{all_from_yields_List}
use Rattle.wire.specs.Words.{all_within}
use Rattle.wire.proofs.reading.is_note.Goals as goal

pub returns-then-note-le-NOTE : goal.returns-then-note-le-NOTE
returns-then-note-le-NOTE c =
    let within : c.all.result ≡ all_within 32 126 c.args.note.now =
    all_from_yields_List (λ byte. leb 32 byte && leb byte 126) _ _ c.all.result c.all.ensures.ran
    (YieldsList-from_slice c.args.note.now (cc)) (λ x b q k. search (rules, tests)) in
    grind (arith, nat_tests)
