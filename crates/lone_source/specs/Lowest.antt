-- Of the sources that a rule names, only that of the lowest station. Assumes nothing.
use Rattle.std.specs.Prelude.{ℕ, Bool, not, ◌&&◌, Some, None, Option}
use Rattle.board.specs.Sets.{has, some, set_of}
use Rattle.board.specs.Rules.{RuleMeaning, Lawful}

-- the station at a place is in the set, and none before it
abbrev pub leads_set : ℕ → ℕ → Bool
leads_set set place = has set place && not (some (has set) place)

-- the set of the lowest station of a set
abbrev pub lowest_of : ℕ → ℕ
lowest_of set = set_of (leads_set set)

-- the same of a rule's answer
abbrev pub lone : Option ℕ → Option ℕ
lone None = None
lone (Some sources) = Some (lowest_of sources)

-- the rule that settles with the rule below, on one source
abbrev pub lone_source : RuleMeaning → RuleMeaning
lone_source below = record { n = below.n; answer = λ board. lone (below.answer board) }

-- it is lawful over every lawful rule
abbrev pub LoneSourcesAreLawful : Type 0
LoneSourcesAreLawful = (below : RuleMeaning) → Lawful below → Lawful (lone_source below)
