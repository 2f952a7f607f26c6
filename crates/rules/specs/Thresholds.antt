-- A threshold Φ over a rule, sentence by sentence. Assumes nothing.
use Rattle.std.specs.Prelude.{ℕ, ◌+◌, Bool, cond, not, ◌&&◌, ◌||◌, Some, None, nat_le, nat_lt}
use Rattle.board.specs.Sets.{implies, every, any, set_of}
use Rattle.board.specs.Boards.{absent, candidate, voters_at, lead}
use Rattle.board.specs.Rules.{RuleMeaning, of_group}
use Rattle.board.specs.declared.board.Board.{Board}

-- at most Φ stations are absent
abbrev pub few_absent : ℕ → Board → Bool
few_absent phi board = nat_le (absent board) phi

-- it has more than Φ voters
abbrev pub passes : ℕ → Board → ℕ → Bool
passes phi board place = nat_lt phi (voters_at board place)

-- it has at most Φ voters, even if all that are absent should vote for it
abbrev pub cannot_pass : ℕ → Board → ℕ → Bool
cannot_pass phi board place = nat_le (voters_at board place + absent board) phi

-- some candidate leads over it by more than Φ
abbrev pub is_led : ℕ → Board → ℕ → Bool
is_led phi board place = any (λ other. candidate board other && nat_lt phi (lead board other place))

-- some candidate's lead over it, with all that are absent, exceeds Φ
abbrev pub may_be_led : ℕ → Board → ℕ → Bool
may_be_led phi board place = any (λ other. candidate board other && nat_lt phi (lead board other place + absent board))

-- 1. the rule below answers if at most Φ are absent and no candidate can pass
abbrev pub asks_below : ℕ → Board → Bool
asks_below phi board =
    few_absent phi board && every (λ place. implies (candidate board place) (cannot_pass phi board place))

-- 2. otherwise a candidate is a source if it passes, or if none may lead over it
abbrev pub source : ℕ → Board → ℕ → Bool
source phi board place = candidate board place && (passes phi board place || not (may_be_led phi board place))

-- a candidate that is no source cannot pass, and is led
abbrev pub out_of_it : ℕ → Board → ℕ → Bool
out_of_it phi board place =
    implies (candidate board place && not (source phi board place)) (cannot_pass phi board place && is_led phi board place)

-- 3. it is settled if at most Φ are absent, some candidate passes, and every other is out of it
abbrev pub settles : ℕ → Board → Bool
settles phi board =
    few_absent phi board && (any (λ place. candidate board place && passes phi board place) && every (out_of_it phi board))

-- the rule of Φ over a rule, for the groups of that rule
abbrev pub threshold : ℕ → RuleMeaning → RuleMeaning
threshold phi below =
    record {
      n = below.n;
      answer =
          λ board. of_group below.n board
          (cond (asks_below phi board) (below.answer board)
          (cond (settles phi board) (Some (set_of (source phi board))) None));
    }
