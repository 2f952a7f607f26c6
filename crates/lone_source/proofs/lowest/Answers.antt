use Rattle.std.proofs.Common.{◌≡◌, true, false, rules, tests}
use Rattle.std.proofs.lemmas.Iterator.{first_from_Range}
use Rattle.board.specs.Sets.{has}
use Rattle.lone_source.specs.Least.{lowest-is}
use Rattle.lone_source.proofs.lowest.Goals as goal

pub returns : goal.returns
returns c =
    lowest-is c.args.set c.find.result c.map_or.result
    (first_from_Range _ _ _ c.find.result (λ place. has c.args.set place ≡ true) (λ place. has c.args.set place ≡ false)
    c.find.ensures.ran (λ place q call. search (rules, tests)) (λ place q call. search (rules, tests)))
    (search rules)
