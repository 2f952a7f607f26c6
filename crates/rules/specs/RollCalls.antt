-- Roll call: settles when all are present, and every candidate is a source. Assumes nothing.
use Rattle.std.specs.Prelude.{ℕ, cond, Some, None}
use Rattle.board.specs.Sets.{set_of}
use Rattle.board.specs.Boards.{all_present, candidate}
use Rattle.board.specs.Rules.{RuleMeaning, of_group}

-- the rule for n
abbrev pub roll_call : ℕ → RuleMeaning
roll_call n =
    record {
      n = n;
      answer = λ board. of_group n board (cond (all_present board) (Some (set_of (candidate board))) None);
    }
