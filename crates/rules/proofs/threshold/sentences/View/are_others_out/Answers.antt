use Rattle.std.proofs.Common.{refl, rules}
use Rattle.std.proofs.lemmas.Iterator.{YieldsList-from_range}
use Rattle.board.proofs.Asked.{every-all}
use Rattle.rules.specs.Thresholds.{out_of_it}
use Rattle.rules.proofs.threshold.sentences.View.are_others_out.Goals as goal

pub returns : goal.returns
returns c =
    every-all _ (out_of_it c.args.self.now.phi c.args.self.now.board.now)
    c.all.result c.all.ensures.ran (YieldsList-from_range 0 16 16 refl refl) (λ place given after called. search rules)
