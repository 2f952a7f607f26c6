-- Lead station: settles when the chosen station is present, and the candidates that it votes for are the
-- sources. Assumes nothing.
use Rattle.std.specs.Prelude.{ℕ, ◌-◌, Bool, cond, ◌&&◌, Some, None}
use Rattle.board.specs.Sets.{set_of}
use Rattle.board.specs.Boards.{candidate, is_present, votes_at}
use Rattle.board.specs.Rules.{RuleMeaning, of_group}
use Rattle.board.specs.declared.board.Board.{Board}

-- the candidates that the station at a place votes for
abbrev pub chosen_by : Board → ℕ → ℕ → Bool
chosen_by board voter place = candidate board place && votes_at board voter place

-- the rule of the chosen station, which stands one place below its number
abbrev pub lead_station : ℕ → ℕ → RuleMeaning
lead_station n station =
    record {
      n = n;
      answer =
          λ board. of_group n board (cond (is_present board (station - 1)) (Some (set_of (chosen_by board (station - 1)))) None);
    }
