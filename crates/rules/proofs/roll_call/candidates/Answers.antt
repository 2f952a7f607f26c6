use Rattle.std.proofs.Common.{◌∙◌, rules}
use Rattle.board.proofs.FromCalls.{set_of-calls}
use Rattle.board.specs.Boards.{candidate}
use Rattle.rules.proofs.roll_call.candidates.Goals as goal

pub returns : goal.returns
returns c =
    c.set_of.ensures
    ∙ set_of-calls _ _ _ (candidate c.args.board.now) c.from_fn.ensures.items (λ place given after called. search rules)
