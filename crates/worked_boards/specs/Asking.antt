-- Asking a rule about votes. Assumes nothing.
use Rattle.std.specs.Prelude.{ℕ, List, Ok, Err, Option, Result}
use Rattle.wire.specs.declared.fault.Fault.{Fault}
use Rattle.board.specs.Ballots.{voting_set}
use Rattle.board.specs.Boards.{board_of}
use Rattle.board.specs.Rules.{RuleMeaning}
use Rattle.board.specs.declared.board.Board.{Board}

-- the rule's answer to a board, if there is one
abbrev pub answered : RuleMeaning → Result Board Fault → Result (Option ℕ) Fault
answered rule (Ok board) = Ok (rule.answer board)
answered rule (Err fault) = Err fault

-- its answer to the board on which just those are present that vote
abbrev pub asked : RuleMeaning → ℕ → List ℕ → Result (Option ℕ) Fault
asked rule n voters = answered rule (board_of n (voting_set voters) voters)
