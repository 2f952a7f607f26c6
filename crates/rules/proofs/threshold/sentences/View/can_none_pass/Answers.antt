use Rattle.std.proofs.Common.{refl, rules}
use Rattle.std.proofs.lemmas.Iterator.{YieldsList-from_range}
use Rattle.board.proofs.Asked.{every-all}
use Rattle.board.specs.Boards.{candidate}
use Rattle.board.specs.Sets.{implies}
use Rattle.rules.specs.Thresholds.{cannot_pass}
use Rattle.rules.proofs.threshold.sentences.View.can_none_pass.Goals as goal

pub returns : goal.returns
returns c =
    every-all _ (λ place. implies (candidate c.args.self.now.board.now place) (cannot_pass c.args.self.now.phi c.args.self.now.board.now place))
    c.all.result c.all.ensures.ran (YieldsList-from_range 0 16 16 refl refl) (λ place given after called. search rules)
