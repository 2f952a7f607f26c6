use Rattle.std.proofs.Common.{sym, ◌∙◌}
use Rattle.rules.proofs.Joined.{one-chosen, one-none}
use Rattle.rules.proofs.threshold.sentences.alone_if.Goals as goal

pub returns-then-is_chosen : goal.returns-then-is_chosen
returns-then-is_chosen c = c.alone.ensures ∙ sym (one-chosen c.args.is_chosen c.args.place c.if-is_chosen.true)

pub returns-else-is_chosen : goal.returns-else-is_chosen
returns-else-is_chosen c = sym (one-none c.args.is_chosen c.args.place c.if-is_chosen.false)
