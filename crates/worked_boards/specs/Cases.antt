-- Boards worked through by hand, with the answers. Stations are named by number. Assumes nothing.
use Rattle.std.specs.Prelude.{◌≡◌, ℕ, suc, Bool, true, false, cond, ◌||◌, List, [], ◌∷◌, map, replicate, Some, None, Ok, Option, Result, ◌==◌}
use Rattle.std.specs.List.{range_with_len}
use Rattle.wire.specs.declared.fault.Fault.{Fault}
use Rattle.board.specs.Ballots.{is_board, is_group}
use Rattle.board.specs.Sets.{set_of}
use Rattle.board.specs.Rules.{RuleMeaning}
use Rattle.rules.specs.RollCalls.{roll_call}
use Rattle.rules.specs.LeadStations.{lead_station}
use Rattle.rules.specs.Piles.{pile}
use Rattle.worked_boards.specs.Asking.{asked}

-- whether a station is in a list, and the set of a list of stations
abbrev pub is_listed : List ℕ → ℕ → Bool
is_listed [] station = false
is_listed (first ∷ others) station = first == station || is_listed others station

abbrev pub listed : List ℕ → ℕ
listed stations = set_of (λ place. is_listed stations (suc place))

-- the stations that vote for the candidate of one station
pub record Votes : Type 0 where
  pub candidate_of : ℕ
  pub from : List ℕ

-- "1 ⟸ voters": these vote for the candidate of station 1
infix 70 ◌⟸◌
abbrev pub ◌⟸◌ : ℕ → List ℕ → Votes
station ⟸ voters = record { candidate_of = station; from = voters }

-- the set of the voters of one station, none where no line names it, and of each of the sixteen
abbrev pub votes_in : List Votes → ℕ → ℕ
votes_in [] station = 0
votes_in (first ∷ others) station = cond (first.candidate_of == station) (listed first.from) (votes_in others station)

abbrev pub voters_in : List Votes → List ℕ
voters_in votes = map (λ place. votes_in votes (suc place)) (range_with_len 0 16)

-- a board that a rule is shown, and the sources, or that it is open
pub record Case : Type 0 where
  pub rule : RuleMeaning
  pub n : ℕ
  pub votes : List Votes
  pub sources : Option (List ℕ)

-- the answer of a rule, with its sources as a set
abbrev pub told : Option (List ℕ) → Option ℕ
told None = None
told (Some stations) = Some (listed stations)

-- what the rule answers, and what it should
abbrev pub outcome : Case → Result (Option ℕ) Fault
outcome case = asked case.rule case.n (voters_in case.votes)

abbrev pub expected : Case → Result (Option ℕ) Fault
expected case = Ok (told case.sources)

-- thresholds, the first on top, over roll call in a group of n
abbrev pub over_roll_call : ℕ → List ℕ → RuleMeaning
over_roll_call n phis = pile phis (roll_call n)

-- five stations and the threshold 2 over roll call
abbrev pub of_five : List Votes → Option (List ℕ) → Case
of_five votes sources = record { rule = over_roll_call 5 (2 ∷ []); n = 5; votes = votes; sources = sources }

-- another pile of thresholds over roll call
abbrev pub by_pile : ℕ → List ℕ → List Votes → Option (List ℕ) → Case
by_pile n phis votes sources = record { rule = over_roll_call n phis; n = n; votes = votes; sources = sources }

-- the table
abbrev pub cases : List Case
cases =
    of_five (1 ⟸ (1 ∷ 2 ∷ 3 ∷ []) ∷ []) (Some (1 ∷ []))
    ∷ of_five (1 ⟸ (1 ∷ 2 ∷ []) ∷ []) None
    ∷ of_five (1 ⟸ (1 ∷ 2 ∷ 3 ∷ []) ∷ 4 ⟸ (4 ∷ []) ∷ []) (Some (1 ∷ []))
    ∷ of_five (1 ⟸ (1 ∷ 2 ∷ 3 ∷ []) ∷ 4 ⟸ (3 ∷ 4 ∷ []) ∷ []) None
    ∷ of_five (1 ⟸ (1 ∷ 2 ∷ 3 ∷ []) ∷ 4 ⟸ (3 ∷ 4 ∷ []) ∷ 5 ⟸ (5 ∷ []) ∷ []) (Some (1 ∷ 4 ∷ []))
    ∷ of_five (1 ⟸ (1 ∷ 2 ∷ 3 ∷ 5 ∷ []) ∷ 4 ⟸ (3 ∷ 4 ∷ []) ∷ []) (Some (1 ∷ []))
    ∷ of_five (1 ⟸ (1 ∷ 2 ∷ 3 ∷ 5 ∷ []) ∷ 4 ⟸ (3 ∷ 4 ∷ 5 ∷ []) ∷ []) (Some (1 ∷ 4 ∷ []))
    ∷ of_five
    (1 ⟸ (1 ∷ []) ∷ 2 ⟸ (2 ∷ []) ∷ 3 ⟸ (3 ∷ []) ∷ 4 ⟸ (4 ∷ []) ∷ 5 ⟸ (5 ∷ []) ∷ [])
    (Some (1 ∷ 2 ∷ 3 ∷ 4 ∷ 5 ∷ []))
    ∷ by_pile 5 (1 ∷ []) (1 ⟸ (1 ∷ 2 ∷ []) ∷ 3 ⟸ (3 ∷ 4 ∷ []) ∷ []) (Some (1 ∷ 3 ∷ []))
    ∷ by_pile 5 (2 ∷ 1 ∷ []) (1 ⟸ (1 ∷ 2 ∷ []) ∷ 3 ⟸ (3 ∷ 4 ∷ []) ∷ []) None
    ∷ by_pile 5 (2 ∷ 1 ∷ []) (1 ⟸ (1 ∷ 2 ∷ []) ∷ 3 ⟸ (3 ∷ 4 ∷ []) ∷ 5 ⟸ (5 ∷ []) ∷ []) (Some (1 ∷ 3 ∷ []))
    ∷ record {
      rule = lead_station 5 4;
      n = 5;
      votes = 1 ⟸ (1 ∷ 2 ∷ 3 ∷ []) ∷ 4 ⟸ (3 ∷ 4 ∷ []) ∷ [];
      sources = Some (4 ∷ []);
    }
    -- each of these three is open for one condition of settling alone
    ∷ by_pile 5 (1 ∷ []) (1 ⟸ (1 ∷ 2 ∷ 3 ∷ []) ∷ []) None
    ∷ by_pile 5 (1 ∷ []) (1 ⟸ (1 ∷ 2 ∷ 4 ∷ []) ∷ 3 ⟸ (3 ∷ []) ∷ []) None
    ∷ by_pile 7 (3 ∷ []) (1 ⟸ (1 ∷ 2 ∷ 3 ∷ 5 ∷ []) ∷ 4 ⟸ (3 ∷ 4 ∷ []) ∷ 6 ⟸ (6 ∷ []) ∷ []) None
    ∷ []

-- the rules answer every board of the table as it says
abbrev pub WorkedOut : Type 0
WorkedOut = map outcome cases ≡ map expected cases

-- nobody present is a board, in every group
abbrev pub NobodyIsABoard : Type 0
NobodyIsABoard = (n : ℕ) → is_group n ≡ true → is_board n 0 (replicate 16 0) ≡ true
