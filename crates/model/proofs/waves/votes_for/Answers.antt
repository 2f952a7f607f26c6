use Rattle.model.proofs.BoardLaws.{boards_are_there}
use Rattle.model.proofs.waves.votes_for.Goals as goal

pub returns-then-head-candidate-clause-boards : goal.returns-then-head-candidate-clause-boards
returns-then-head-candidate-clause-boards c = boards_are_there

pub returns-else-head-candidate-clause-boards : goal.returns-else-head-candidate-clause-boards
returns-else-head-candidate-clause-boards c = boards_are_there
