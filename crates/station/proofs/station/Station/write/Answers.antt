use Rattle.std.proofs.Common.{Ok, Err, sym, ap, ◌∙◌}
use Rattle.std.proofs.lemmas.Result.{err_from_is_err_and}
use Rattle.model.specs.Calls.{outcome}
use Rattle.model.specs.States.{accepting}
use Rattle.model.proofs.Decided.{never-taken}
use Rattle.station.specs.Standing.{state_of_station}
use Rattle.station.proofs.Drafted.{filling_done, may_write_it, write_answered}
use Rattle.station.proofs.station.Station.write.Goals as goal

pub returns-in_err-message-clause-answers : goal.returns-in_err-message-clause-answers
returns-in_err-message-clause-answers c =
    let refused = err_from_is_err_and c.from_residual.result c.from_residual.ensures.1 in
    let state = state_of_station c.args.self.now in
    write_answered c.args.self.now c.args.class c.args.order.now c.args.note.now c.args.block.now c.from_residual.result
    (refused.1 ∙ ap Err refused.2
    ∙ ap (λ decided. (outcome state decided (λ _. tt) (accepting state)).answer) c.in_err-message.ensures)

pub returns-in_err-fill : goal.returns-in_err-fill
returns-in_err-fill c =
    absurd
    (never-taken c.in_err-fill.field-0.0 tt
    (c.in_err-fill.ensures.answer
    ∙ filling_done c.args.self.now c.args.class c.args.order.now c.args.note.now c.args.block.now
    c.in_ok-message.message (sym c.in_ok-message.ensures)))

pub accept-requires : goal.accept-requires
accept-requires c =
    may_write_it c.args.self.now c.args.class c.args.order.now c.args.note.now c.args.block.now
    c.in_ok-message.message (sym c.in_ok-message.ensures)

pub returns-clause-answers : goal.returns-clause-answers
returns-clause-answers c =
    let state = state_of_station c.args.self.now in
    write_answered c.args.self.now c.args.class c.args.order.now c.args.note.now c.args.block.now (Ok tt)
    (ap (λ decided. (outcome state decided (λ _. tt) (accepting state)).answer) c.in_ok-message.ensures)
