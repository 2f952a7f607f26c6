use Rattle.rules.specs.RollCallLaws.{roll_call_lawful}
use Rattle.rules.proofs.roll_call.RollCall.new.Goals as goal

pub returns-then-not-is_group-clause-lawful : goal.returns-then-not-is_group-clause-lawful
returns-then-not-is_group-clause-lawful c = roll_call_lawful

pub returns-clause-lawful : goal.returns-clause-lawful
returns-clause-lawful c = roll_call_lawful
