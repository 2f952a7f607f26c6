use Rattle.std.proofs.Common.{◌≡◌, Err, sym, subst, rules}
use Rattle.wire.specs.declared.fault.Fault.TheVariants.{Setting}
use Rattle.model.specs.Calls.{open_answer}
use Rattle.model.specs.Meanings.{OpenAnswers}
use Rattle.model.proofs.AnswerLaws.{open_answers}
use Rattle.station.specs.Memory.{settings_of}
use Rattle.station.proofs.station.Station.may_open.Goals as goal

pub returns-else-lawful-clause-answers : goal.returns-else-lawful-clause-answers
returns-else-lawful-clause-answers c =
    let settings = settings_of c.args.n c.args.own c.args.table.now c.args.roll.now in
    let told : Err Setting ≡ open_answer settings = search rules in
    subst (OpenAnswers settings) (sym told) (open_answers settings)
