use Rattle.std.proofs.Common.{◌≡◌, ◌&&◌, leb, drop, ◌∙◌, arith, rules}
use borrow.Author.Tests.{tests}
use Rattle.std.proofs.lemmas.Bool.Decides.{nat_tests}
use Rattle.std.proofs.lemmas.Iterator.{YieldsList-from_slice}
use Rattle.std.proofs.lemmas.Iterator.Search.{all_from_yields_List}
use Rattle.std.proofs.lemmas.Slice.{between_to_end}
use Rattle.wire.specs.Words.{all_within}
use Rattle.wire.proofs.message.counts_fit.Goals as goal

pub returns-then-all : goal.returns-then-all
returns-then-all c =
    let first : c.all.result ≡ all_within 0 4096 c.args.after.now =
    all_from_yields_List (λ count. leb 0 count && leb count 4096) _ _ c.all.result c.all.ensures.ran
    (YieldsList-from_slice c.args.after.now (cc)) (λ x b q k. search (rules, tests)) in
    let rest : c.all-then-all.result ≡ all_within 0 0 (drop c.args.n c.args.after.now) =
    all_from_yields_List (λ count. leb 0 count && leb count 0) _ _ c.all-then-all.result c.all-then-all.ensures.ran
    (YieldsList-from_slice (drop c.args.n c.args.after.now) (c.iter-then-all.ensures.rest ∙ between_to_end c.args.after.now c.args.n 16 (omega arith))) (λ x b q k. search (rules, tests)) in
    grind (arith, nat_tests)
