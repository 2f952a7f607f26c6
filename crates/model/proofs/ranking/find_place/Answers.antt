use Rattle.std.proofs.Common.{unwrap_or, length, ap, ◌∙◌, rules}
use Rattle.std.proofs.lemmas.Iterator.{YieldsList-from_slice}
use Rattle.std.proofs.lemmas.Iterator.Search.{position_from_yields_List}
use Rattle.model.specs.Waves.{goes_before}
use borrow.Author.Tests.{tests}
use Rattle.model.proofs.ranking.find_place.Goals as goal

pub returns-clause-place : goal.returns-clause-place
returns-clause-place g c =
    c.unwrap_or.ensures
    ∙ ap (λ found. unwrap_or found (length c.args.messages.now))
    (position_from_yields_List (goes_before (g.T.TieOrder.means c.args.order.now) c.args.wave c.args.message.now) _ _ _
    c.position.ensures.ran (YieldsList-from_slice c.args.messages.now cc) (λ x b q k. search (rules, tests)))
