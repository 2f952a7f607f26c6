use Rattle.rules.proofs.PileLaws.{piles_are_lawful}
use Rattle.runs.proofs.InStep.{rolls_in_step}
use Rattle.runs.proofs.Posted.{books_in_step-from, told-by_states}
use Rattle.runs.proofs.Quiet.{equal_when_quiet}
use Rattle.runs.proofs.Waiting.{waiting_bound}
use Rattle.runs.proofs.promise_stands.Goals as goal

pub returns : goal.returns
returns g c =
    record {
      rolls_in_step = rolls_in_step;
      books_in_step = books_in_step-from rolls_in_step;
      equal_when_quiet = equal_when_quiet;
      waiting_bound = waiting_bound;
      piles = piles_are_lawful;
      told = told-by_states;
    }
