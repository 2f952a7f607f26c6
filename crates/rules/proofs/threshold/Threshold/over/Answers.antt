use Rattle.rules.proofs.PileLaws.{piles_are_lawful}
use Rattle.rules.proofs.threshold.Threshold.over.Goals as goal

pub returns-clause-lawful : goal.returns-clause-lawful
returns-clause-lawful g c = piles_are_lawful
