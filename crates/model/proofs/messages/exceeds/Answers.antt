use Rattle.std.proofs.Common.{ltb, ◌∙◌, rules}
use Rattle.std.proofs.lemmas.Iterator.{YieldsList-from_slice, YieldsList-from_zip}
use Rattle.std.proofs.lemmas.Iterator.Search.{any_from_yields_List}
use borrow.Author.Tests.{tests}
use Rattle.model.proofs.Counts.{zipped-some}
use Rattle.model.proofs.messages.exceeds.Goals as goal

pub returns : goal.returns
returns c =
    any_from_yields_List (λ p. ltb p.1 p.0) c.any.new.self _ _ c.any.ensures.ran
    (YieldsList-from_zip (YieldsList-from_slice c.args.counts.now cc) (YieldsList-from_slice c.args.others.now cc))
    (λ x b q k. search (rules, tests))
    ∙ zipped-some (λ count other. ltb other count) c.args.counts.now c.args.others.now 16 c.told-counts c.told-others
