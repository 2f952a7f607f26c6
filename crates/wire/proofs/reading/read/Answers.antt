use Rattle.std.proofs.Common.{ℕ, List, sym, ap, ◌∙◌, arith, w8, Fits}
use Rattle.std.proofs.lemmas.Result.{err_from_is_err_and}
use Rattle.wire.proofs.Damage.{altered_refused, exchanged_refused}
use Rattle.wire.specs.Format.{read_layout}
use Rattle.wire.specs.Laws.{FillsAgain}
use Rattle.wire.specs.Words.{byte}
use Rattle.wire.proofs.Refilled.{fills_again}
use Rattle.wire.proofs.Verdicts.{reading-refused, reading-verified}
use Rattle.wire.proofs.reading.read.Goals as goal

again : (block : List ℕ) → ((i : ℕ) → Fits w8 (byte block i)) → FillsAgain block
again block fits = fills_again block (λ i. let fit = fits i in omega arith)

pub returns-in_err-sealed : goal.returns-in_err-sealed
returns-in_err-sealed c =
    let p = err_from_is_err_and c.from_residual.result c.from_residual.ensures.1 in
    record {
      answer =
          rw (p.1, p.2) (sym (reading-refused c.args.block.now c.in_err-sealed.field-0.0 (sym c.in_err-sealed.ensures.answer)));
      fills_again = again c.args.block.now c.type_inv.block;
      altered = altered_refused c.args.block.now;
      exchanged = exchanged_refused c.args.block.now;
    }

pub returns : goal.returns
returns c =
    record {
      answer =
          c.laid_out.ensures
          ∙ ap read_layout c.in_ok-sealed.ensures.same
          ∙ sym (reading-verified c.args.block.now (sym c.in_ok-sealed.ensures.answer));
      fills_again = again c.args.block.now c.type_inv.block;
      altered = altered_refused c.args.block.now;
      exchanged = exchanged_refused c.args.block.now;
    }
