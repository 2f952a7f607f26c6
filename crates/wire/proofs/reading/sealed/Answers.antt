use Rattle.std.proofs.Common.{◌≡◌, ap, ◌∙◌, sym, rules, w32}
use Rattle.std.specs.Int.{from_le_bytes}
use Rattle.wire.specs.Format.{check_sum}
use Rattle.wire.specs.Words.{four_bytes}
use Rattle.wire.proofs.Numbers.{four_read}
use Rattle.wire.proofs.Verdicts.{verified-good, verified-refused}
use Rattle.wire.proofs.reading.sealed.Goals as goal

pub returns-then-from_le_bytes-sum-clause-answer : goal.returns-then-from_le_bytes-sum-clause-answer
returns-then-from_le_bytes-sum-clause-answer c =
    let whole : c.in_ok-block.block.now ≡ c.args.block.now = search rules in
    let stated = c.from_le_bytes.ensures ∙ ap (from_le_bytes w32) c.array_at.ensures ∙ four_read c.in_ok-block.block.now 508 in
    verified-refused c.args.block.now (search rules)
    (λ holds.
    c.if-from_le_bytes-sum.true
    (stated ∙ ap (λ b. four_bytes b 508) whole ∙ holds ∙ sym (ap check_sum whole) ∙ sym c.sum.ensures))

pub returns-clause-answer : goal.returns-clause-answer
returns-clause-answer c =
    let whole : c.in_ok-block.block.now ≡ c.args.block.now = search rules in
    let stated = c.from_le_bytes.ensures ∙ ap (from_le_bytes w32) c.array_at.ensures ∙ four_read c.in_ok-block.block.now 508 in
    verified-good c.args.block.now (search rules)
    (ap (λ b. four_bytes b 508) (sym whole) ∙ sym stated ∙ c.if-from_le_bytes-sum.false ∙ c.sum.ensures ∙ ap check_sum whole)
