use Rattle.std.proofs.Common.{◌∙◌, refl, rules}
use Rattle.std.proofs.lemmas.Iterator.{YieldsList-from_range, YieldsList-from_map}
use Rattle.std.proofs.lemmas.Iterator.Consumers.{fold_from_yields_List}
use Rattle.rules.specs.Thresholds.{source}
use Rattle.board.proofs.Made.{joins}
use Rattle.rules.proofs.Joined.{one_at, joins-all}
use Rattle.rules.proofs.threshold.sentences.View.sources.Goals as goal

pub returns : goal.returns
returns c =
    fold_from_yields_List _ joins _ _ c.fold.ensures.ran
    (YieldsList-from_map _ (one_at (source c.args.self.now.phi c.args.self.now.board.now)) (YieldsList-from_range 0 16 16 (cc) refl) c.map.ensures.closure
    (λ place b q k. search rules))
    (λ set one b q k. search rules)
    ∙ joins-all (source c.args.self.now.phi c.args.self.now.board.now)
