use Rattle.std.proofs.Common.{refl, rules}
use Rattle.std.proofs.lemmas.Iterator.{YieldsList-from_range}
use Rattle.board.specs.Ballots.{fair}
use Rattle.board.proofs.Asked.{every-all}
use Rattle.board.proofs.board.making.are_fair.Goals as goal

pub returns : goal.returns
returns c =
    every-all _ (fair c.args.n c.args.present c.args.voters.now) c.all.result c.all.ensures.ran (YieldsList-from_range 0 16 16 refl refl) (λ place given after called. search rules)
