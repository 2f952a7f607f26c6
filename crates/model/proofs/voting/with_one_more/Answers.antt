use Rattle.std.proofs.Common.{get_or, rules}
use Rattle.board.specs.Sets.{has}
use Rattle.model.specs.Arrays.{one_more_if, raised_counts}
use Rattle.wire.proofs.Arrays.{from_fn_is}
use Rattle.model.proofs.Counts.{one_more-told}
use Rattle.model.proofs.voting.with_one_more.Goals as goal

pub returns : goal.returns
unfolding raised_counts
returns c =
    from_fn_is (λ place. one_more_if (has c.args.sources place) (get_or c.args.counts.now place 0)) 16 0 c.from_fn.ensures.items
    (λ place given after called. let small = c.fits-counts place in search (rules, one_more-told))
