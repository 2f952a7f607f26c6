use Rattle.std.proofs.Common.{ap}
use Rattle.std.proofs.lemmas.Slice.Eq.{slice_eq-Decides}
use Rattle.board.proofs.Made.{comparing_decides, same-board}
use Rattle.board.proofs.board.calls.BoardPartialEq.eq.Goals as goal
use Rattle.std.proofs.lemmas.Bool.Decides.{Decides-eqb}

pub returns-then-self-other-clause-comparing : goal.returns-then-self-other-clause-comparing
returns-then-self-other-clause-comparing c = comparing_decides

pub returns-then-self-other-2-clause-comparing : goal.returns-then-self-other-2-clause-comparing
returns-then-self-other-2-clause-comparing c = comparing_decides

pub returns-clause-same : goal.returns-clause-same
returns-clause-same c =
    let decides = slice_eq-Decides Decides-eqb c.args.self.now.voters c.args.other.now.voters c.eq.result c.eq.ensures in (
      (λ e. same-board c.args.self.now c.args.other.now c.if-self-other.false c.if-self-other-2.false (decides.0 e)),
      (λ e. decides.1 (ap (λ board. board.voters) e)),
    )

pub returns-clause-comparing : goal.returns-clause-comparing
returns-clause-comparing c = comparing_decides
