use Rattle.std.proofs.Common.{get_or, None, Some, sym, ap, ◌∙◌, rules}
use Rattle.board.proofs.FromCalls.{set_of-calls}
use Rattle.model.specs.Arrays.{counts_by_station}
use Rattle.model.specs.Heads.{backs, ready_head}
use Rattle.model.proofs.Voted.{voters-none, voters-some}
use Rattle.model.proofs.voting.Vote.voters.Goals as goal

pub returns-in-Some : goal.returns-in-Some
returns-in-Some c =
    c.set_of.ensures
    ∙ set_of-calls _ _ _ (λ voter. backs (get_or c.args.self.now.heads.now voter None) (Some c.in-Some.head)) c.from_fn.ensures.items
    (λ voter given after called. search rules)
    ∙ voters-some c.args.self.now.heads.now c.args.self.now.released.now c.args.place c.in-Some.head c.in-Some.is
    (sym c.is_ready.ensures ∙ c.if-is_ready.true)

pub returns-in_default : goal.returns-in_default
returns-in_default c =
    voters-none c.args.self.now.heads.now c.args.self.now.released.now c.args.place
    (ap (ready_head (counts_by_station c.args.self.now.released.now)) c.in-Some.is ∙ sym c.is_ready.ensures ∙ c.if-is_ready.false)

pub returns-in_default-2 : goal.returns-in_default-2
returns-in_default-2 c =
    voters-none c.args.self.now.heads.now c.args.self.now.released.now c.args.place
    (ap (ready_head (counts_by_station c.args.self.now.released.now)) c.in_default.is)
