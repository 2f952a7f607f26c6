-- Thresholds piled on a rule, and that the rules of this crate are lawful. Assumes nothing.
use Rattle.std.specs.Prelude.{◌≡◌, ℕ, ◌≤◌, List, [], ◌∷◌, Option}
use Rattle.board.specs.Rules.{RuleMeaning, Lawful}
use Rattle.board.specs.declared.board.Board.{Board}
use Rattle.rules.specs.RollCalls.{roll_call}
use Rattle.rules.specs.LeadStations.{lead_station}
use Rattle.rules.specs.Thresholds.{threshold}

-- a list of thresholds over a rule, the first on top
abbrev pub pile : List ℕ → RuleMeaning → RuleMeaning
pile [] rule = rule
pile (phi ∷ phis) rule = threshold phi (pile phis rule)

-- Φ over a rule is Φ on top of whatever pile that rule is
abbrev pub TopsThePile : ℕ → RuleMeaning → RuleMeaning → Type 0
TopsThePile phi below rule =
    (phis : List ℕ) (base : RuleMeaning) → below ≡ pile phis base → rule ≡ pile (phi ∷ phis) base

-- an answer to a board is that of Φ on top of whatever pile the rule below is
abbrev pub AnswersAsAPile : ℕ → RuleMeaning → Board → Option ℕ → Type 0
AnswersAsAPile phi below board answer =
    (phis : List ℕ) (base : RuleMeaning) → below ≡ pile phis base → answer ≡ (pile (phi ∷ phis) base).answer board

-- every pile of thresholds over every lawful rule is lawful
abbrev pub PilesAreLawful : Type 0
PilesAreLawful = (phis : List ℕ) (rule : RuleMeaning) → Lawful rule → Lawful (pile phis rule)

-- roll call is lawful for every n
abbrev pub RollCallsAreLawful : Type 0
RollCallsAreLawful = (n : ℕ) → Lawful (roll_call n)

-- the rule of every station of the group is lawful
abbrev pub LeadStationsAreLawful : Type 0
LeadStationsAreLawful = (n station : ℕ) → 1 ≤ station → station ≤ n → Lawful (lead_station n station)
