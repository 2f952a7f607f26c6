use Rattle.std.proofs.Common.{◌&&◌, ◌+◌, nat_lt, refl, rules}
use Rattle.std.proofs.lemmas.Iterator.{YieldsList-from_range}
use Rattle.board.proofs.Asked.{any-any}
use Rattle.board.specs.Boards.{candidate, lead}
use Rattle.rules.proofs.threshold.sentences.View.is_led_with.Goals as goal

pub returns : goal.returns
returns c =
    any-any _ (λ other. candidate c.args.self.now.board.now other && nat_lt c.args.self.now.phi (lead c.args.self.now.board.now other c.args.place + c.args.more))
    c.any.result c.any.ensures.ran (YieldsList-from_range 0 16 16 refl refl) (λ place given after called. search rules)
