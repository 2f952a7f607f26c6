use Rattle.std.proofs.Common.{get_or, is_some, None, ◌∙◌, rules}
use Rattle.board.proofs.FromCalls.{set_of-calls}
use Rattle.model.proofs.voting.present.Goals as goal

pub returns : goal.returns
returns c =
    c.set_of.ensures
    ∙ set_of-calls _ _ _ (λ place. is_some (get_or c.args.heads.now place None)) c.from_fn.ensures.items
    (λ place given after called. search rules)
