use Rattle.std.proofs.Common.{rules}
use Rattle.model.specs.Arrays.{voter_sets_in, voters_in}
use Rattle.wire.proofs.Arrays.{from_fn_is}
use Rattle.model.proofs.voting.voter_sets.Goals as goal

pub returns : goal.returns
unfolding voter_sets_in
returns c =
    from_fn_is (voters_in c.args.heads.now c.args.released.now) 16 0 c.from_fn.ensures.items
    (λ place given after called. search rules)
