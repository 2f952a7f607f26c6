-- What holds of every board. Assumes nothing.
use Rattle.std.proofs.Common.{◌≡◌, ℕ, ◌^◌, ◌<◌, ◌≤◌, Bool, true, false, not, ◌&&◌, eqb, leb, length, sym, refl, ap, ◌∙◌, ⊎_elim, arith}
use Rattle.std.proofs.lemmas.List.{get_or_past}
use Rattle.std.proofs.lemmas.Bool.{and_parts, cases_Bool, cases_lt, true≢false, eqb-true, eq-eqb, leb-true, ltb-true, lt-ltb}
use Rattle.board.specs.Sets.{has, implies, within, every, any, up_to}
use Rattle.board.specs.Ballots.{votes_for, has_candidate, fair, votes}
use Rattle.board.specs.Boards.{member, is_present, is_absent, absent, all_present, candidate, votes_at, voters_at, lead}
use Rattle.board.specs.declared.board.Board.{Board}
use Rattle.board.proofs.Places.{all-at, some_at, count-zero, count_bound}
use Rattle.board.proofs.Digits.{has-zero, has-below}

pub group-first : (board : Board) → 1 ≤ board.n
group-first board = leb-true 1 board.n (and_parts (leb 1 board.n) (leb board.n 16) board.group).0

pub group-last : (board : Board) → board.n ≤ 16
group-last board = leb-true board.n 16 (and_parts (leb 1 board.n) (leb board.n 16) board.group).1

-- the conditions of a board, one by one
record Conditions (board : Board) : Type 0 where
  sixteen : length board.voters ≡ 16
  range : board.present < 2 ^ board.n
  each_fair : every (fair board.n board.present board.voters) ≡ true
  each_votes : every (votes board.present board.voters) ≡ true

conditions : (board : Board) → Conditions board
conditions board =
    let whole =
    and_parts (eqb (length board.voters) 16)
    (up_to board.n board.present
    && (every (fair board.n board.present board.voters) && every (votes board.present board.voters)))
    board.holds in
    let rest =
    and_parts (up_to board.n board.present)
    (every (fair board.n board.present board.voters) && every (votes board.present board.voters)) whole.1 in
    let last =
    and_parts (every (fair board.n board.present board.voters)) (every (votes board.present board.voters))
    rest.1 in
    record {
      sixteen = eqb-true (length board.voters) 16 whole.0;
      range = ltb-true board.present (2 ^ board.n) rest.0;
      each_fair = last.0;
      each_votes = last.1;
    }

-- where the first holds, so does the second
pub implied : (premise conclusion : Bool) → implies premise conclusion ≡ true → premise ≡ true → conclusion ≡ true
implied true conclusion h e = h
implied false conclusion h e = absurd (true≢false (sym e))

pub present_member : (board : Board) (place : ℕ) → is_present board place ≡ true → place < board.n
present_member board place e = has-below board.n board.present place (conditions board).range e

-- a station that somebody votes for stands at one of the sixteen places
pub voted_place : (board : Board) (voter place : ℕ) → votes_at board voter place ≡ true → place < 16
voted_place board voter place e =
    ⊎_elim (λ below. below)
    (λ past.
    absurd (true≢false (sym e
    ∙ ap (λ s. has s voter) (get_or_past board.voters place 0 (reached past (length board.voters) (conditions board).sixteen))
    ∙ has-zero voter)))
    (cases_lt place 16)
  where
    reached : 16 ≤ place → (long : ℕ) → long ≡ 16 → long ≤ place
    reached past long same = omega arith

fair_at : (board : Board) (place : ℕ) → place < 16 → fair board.n board.present board.voters place ≡ true
fair_at board place h = all-at (fair board.n board.present board.voters) 16 place (conditions board).each_fair h

-- only members vote, and only present stations
pub voter_member : (board : Board) (voter place : ℕ) → votes_at board voter place ≡ true → voter < board.n
voter_member board voter place e =
    let all_fair = fair_at board place (voted_place board voter place e) in
    has-below board.n (votes_for board.voters place) voter
    (ltb-true (votes_for board.voters place) (2 ^ board.n)
    (and_parts (up_to board.n (votes_for board.voters place))
    (within (votes_for board.voters place) board.present
    && implies (has_candidate board.voters place) (has (votes_for board.voters place) place)) all_fair).0)
    e

pub voter_place : (board : Board) (voter place : ℕ) → votes_at board voter place ≡ true → voter < 16
voter_place board voter place e =
    let below = voter_member board voter place e in
    let last = group-last board in
    omega arith

pub voter_present : (board : Board) (voter place : ℕ) → votes_at board voter place ≡ true → is_present board voter ≡ true
voter_present board voter place e =
    let all_fair = fair_at board place (voted_place board voter place e) in
    let rest =
    (and_parts (up_to board.n (votes_for board.voters place))
    (within (votes_for board.voters place) board.present
    && implies (has_candidate board.voters place) (has (votes_for board.voters place) place)) all_fair).1 in
    let inside =
    (and_parts (within (votes_for board.voters place) board.present)
    (implies (has_candidate board.voters place) (has (votes_for board.voters place) place)) rest).0 in
    implied (votes_at board voter place) (is_present board voter)
    (all-at (λ k. implies (has (votes_for board.voters place) k) (has board.present k)) 16 voter inside
    (voter_place board voter place e))
    e

-- a station that somebody votes for has a candidate
pub voted_candidate : (board : Board) (voter place : ℕ) → votes_at board voter place ≡ true → candidate board place ≡ true
voted_candidate board voter place e =
    ⊎_elim
    (λ none.
    absurd (true≢false (sym e ∙ ap (λ s. has s voter) (eqb-true (votes_for board.voters place) 0 none) ∙ has-zero voter)))
    (λ any-votes. ap not any-votes)
    (cases_Bool (eqb (votes_for board.voters place) 0))

pub candidate-place : (board : Board) (place : ℕ) → candidate board place ≡ true → place < 16
candidate-place board place e =
    ⊎_elim (λ below. below)
    (λ past.
    let none = get_or_past board.voters place 0 (reached past (length board.voters) (conditions board).sixteen) in
    absurd (true≢false (sym e ∙ ap not (eq-eqb (votes_for board.voters place) 0 none))))
    (cases_lt place 16)
  where
    reached : 16 ≤ place → (long : ℕ) → long ≡ 16 → long ≤ place
    reached past long same = omega arith

-- a candidate's station votes for it
pub own_vote : (board : Board) (place : ℕ) → candidate board place ≡ true → votes_at board place place ≡ true
own_vote board place e =
    let all_fair = fair_at board place (candidate-place board place e) in
    let rest =
    (and_parts (up_to board.n (votes_for board.voters place))
    (within (votes_for board.voters place) board.present
    && implies (has_candidate board.voters place) (has (votes_for board.voters place) place)) all_fair).1 in
    let own =
    (and_parts (within (votes_for board.voters place) board.present)
    (implies (has_candidate board.voters place) (has (votes_for board.voters place) place)) rest).1 in
    implied (candidate board place) (votes_at board place place) own e

-- a present station votes for some candidate
pub votes-some :
    (board : Board) (voter : ℕ) → is_present board voter ≡ true → (place : ℕ) × (place < 16) × (votes_at board voter place ≡ true)
votes-some board voter e =
    let member = present_member board voter e in
    let last = group-last board in
    some_at (λ place. votes_at board voter place) 16
    (implied (is_present board voter) (any (λ place. votes_at board voter place))
    (all-at (votes board.present board.voters) 16 voter (conditions board).each_votes (omega arith)) e)

-- where nobody is absent, every member is present
pub none-absent : (board : Board) (place : ℕ) → all_present board ≡ true → place < board.n → is_present board place ≡ true
none-absent board place e h =
    let last = group-last board in
    shown (member board place) (is_present board place) (lt-ltb place board.n h)
    (count-zero (is_absent board) 16 place (eqb-true (absent board) 0 e) (omega arith))
  where
    shown : (m p : Bool) → m ≡ true → (m && not p) ≡ false → p ≡ true
    shown m true e a = refl
    shown true false e a = absurd (true≢false a)
    shown false false e a = absurd (true≢false (sym e))

-- no count of stations is above 16

pub absent_bound : (board : Board) → absent board ≤ 16
absent_bound board = count_bound (is_absent board) 16

pub voters_bound : (board : Board) (place : ℕ) → voters_at board place ≤ 16
voters_bound board place = count_bound (λ voter. votes_at board voter place) 16

pub lead_bound : (board : Board) (first second : ℕ) → lead board first second ≤ 16
lead_bound board first second = count_bound (λ voter. votes_at board voter first && not (votes_at board voter second)) 16
