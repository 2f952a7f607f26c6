-- When two runs are of one group. Assumes nothing.
use Rattle.std.specs.Prelude.{◌≡◌, ℕ, ◌≤◌, ◌⊎◌, List}
use Rattle.board.specs.Rules.{RuleMeaning}
use Rattle.board.specs.declared.board.Board.{Board}
use Rattle.ties.specs.Ties.{Apart, Member, TieMeaning}
use Rattle.ties.specs.declared.tie.Head.{Head}
use Rattle.wire.specs.declared.message.Message.{Message}
use Rattle.model.specs.Following.{Alike}
use Rattle.runs.specs.Runs.{HasAccepted, Run, WasGiven}

-- two rules are the same when their answers are, to all boards of n
abbrev pub SameRule : ℕ → RuleMeaning → RuleMeaning → Type 0
SameRule n rule other = (board : Board) → board.n ≡ n → rule.answer board ≡ other.answer board

-- two tie orders are the same when their answers are, for different stations 1 to n, classes 0 to 3 and waves
-- from 1
abbrev pub SameOrder : ℕ → TieMeaning → TieMeaning → Type 0
SameOrder n order other =
    (wave : ℕ) (a b : Head) → 1 ≤ wave → Member n a → Member n b → Apart a b → a.class ≤ 3 → b.class ≤ 3
    → order.before wave a b ≡ other.before wave a b

-- a rule and a tie order were given to a release, not answered 12, of one of two runs
abbrev pub GivenInOne : {Held Reply : Type 0} → Run Held Reply → Run Held Reply → RuleMeaning → TieMeaning → Type 0
GivenInOne run other rule order = WasGiven run rule order ⊎ WasGiven other rule order

pub record OneGroup {Held Reply : Type 0} (run other : Run Held Reply) : Type 0 where
  -- the groups have one size
  pub same_n : run.settings.n ≡ other.settings.n
  -- every release of both that is not answered 12 is given the same rule and the same tie order
  pub same_rule :
      (rule rule' : RuleMeaning) (order order' : TieMeaning) → GivenInOne run other rule order
      → GivenInOne run other rule' order' → SameRule run.settings.n rule rule'
  pub same_order :
      (rule rule' : RuleMeaning) (order order' : TieMeaning) → GivenInOne run other rule order
      → GivenInOne run other rule' order' → SameOrder run.settings.n order order'
  -- the books have one step, and hold the same at the start
  pub same_step : (held : Held) (bytes : List ℕ) → run.step held bytes ≡ other.step held bytes
  pub same_start : run.start ≡ other.start
  -- a message that both have accepted under one station and number is alike
  pub alike :
      (message message' : Message) → HasAccepted run run.calls message → HasAccepted other other.calls message'
      → message.station ≡ message'.station → message.number ≡ message'.number → Alike message message'
