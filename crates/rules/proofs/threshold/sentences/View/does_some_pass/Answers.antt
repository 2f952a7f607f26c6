use Rattle.std.proofs.Common.{◌&&◌, refl, rules}
use Rattle.std.proofs.lemmas.Iterator.{YieldsList-from_range}
use Rattle.board.proofs.Asked.{any-any}
use Rattle.board.specs.Boards.{candidate}
use Rattle.rules.specs.Thresholds.{passes}
use Rattle.rules.proofs.threshold.sentences.View.does_some_pass.Goals as goal

pub returns : goal.returns
returns c =
    any-any _ (λ place. candidate c.args.self.now.board.now place && passes c.args.self.now.phi c.args.self.now.board.now place)
    c.any.result c.any.ensures.ran (YieldsList-from_range 0 16 16 refl refl) (λ place given after called. search rules)
