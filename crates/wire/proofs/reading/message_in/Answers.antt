use Rattle.std.proofs.Common.{◌≡◌, ◌+◌, ◌*◌, rules}
use borrow.Author.Tests.{tests}
use Rattle.wire.specs.Words.{two_bytes}
use Rattle.wire.specs.Format.{counts_in}
use Rattle.wire.proofs.Arrays.{from_fn_is}
use Rattle.wire.proofs.reading.message_in.Goals as goal

pub returns : goal.returns
unfolding counts_in
returns c =
    let after : c.from_fn.result ≡ counts_in c.args.block.now =
    from_fn_is (λ j. two_bytes c.args.block.now (6 + 2 * j)) 16 0 c.from_fn.ensures.items
    (λ i y q call. search (rules, tests)) in
    cc
