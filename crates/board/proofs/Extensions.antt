-- What an extension keeps and how far its counts can move. Assumes nothing.
use Rattle.std.proofs.Common.{◌≡◌, ℕ, ◌+◌, ◌≤◌, Bool, true, false, not, ◌&&◌, ltb, sym, ap, ◌∙◌, ap₂, ⊎_elim, arith}
use Rattle.std.proofs.lemmas.Bool.{and_left, and_parts, cases_Bool, true≢false, eqb-true, eq-eqb, lt-ltb}
use Rattle.std.proofs.lemmas.Bool.Decides.{nat_tests}
use Rattle.board.specs.Boards.{member, is_present, is_absent, absent, all_present, candidate, votes_at, voters_at, lead, newly_present, Extends}
use Rattle.board.specs.declared.board.Board.{Board}
use Rattle.board.proofs.Places.{one, count_le, count_two, count-nothing}
use Rattle.board.proofs.Facts.{present_member, voter_present, voted_candidate, own_vote}

-- where there is no candidate, nobody votes for one
pub no_votes : (board : Board) (voter place : ℕ) → candidate board place ≡ false → votes_at board voter place ≡ false
no_votes board voter place none =
    ⊎_elim (λ e. absurd (true≢false (sym (voted_candidate board voter place e) ∙ none))) (λ e. e)
    (cases_Bool (votes_at board voter place))

pub no_voters : (board : Board) (place : ℕ) → candidate board place ≡ false → voters_at board place ≡ 0
no_voters board place none =
    count-nothing (λ voter. votes_at board voter place) 16 (λ voter _. no_votes board voter place none)

-- what is no candidate leads over nothing
pub no_lead : (board : Board) (first second : ℕ) → candidate board first ≡ false → lead board first second ≡ 0
no_lead board first second none =
    count-nothing (λ voter. votes_at board voter first && not (votes_at board voter second)) 16
    (λ voter _. and_left (votes_at board voter first) (not (votes_at board voter second)) (no_votes board voter first none))

-- one voter, before and after: who is newly present may vote, and is no longer absent
grown :
    (m p p' v v' : Bool) → (v ≡ true → p ≡ true) → (v' ≡ true → p' ≡ true) → (p ≡ true → p' ≡ true)
    → ((not p && p') ≡ false → v' ≡ v) → (p' ≡ true → m ≡ true)
    → one v' + one (m && not p') ≤ one v + one (m && not p)
grown m p p' v v' a b kept same inside = grind (arith, nat_tests)

fewer : (m p p' : Bool) → (p ≡ true → p' ≡ true) → (m && not p') ≡ true → (m && not p) ≡ true
fewer m p p' kept e = grind (arith, nat_tests)

still : (x y x' y' : Bool) → x' ≡ x → y' ≡ y → (x && not y) ≡ true → (x' && not y') ≡ true
still x y x' y' e f h = ap₂ (λ a b. a && not b) e f ∙ h

ahead : (x y x' y' : Bool) → x' ≡ x → y' ≡ y → y ≡ false → x ≡ true → (x' && not y') ≡ true
ahead x y x' y' e f none h = grind (arith, nat_tests)

module _ (board wider : Board) (extends : Extends board wider) where
  same_member : (place : ℕ) → member wider place ≡ member board place
  same_member place = ap (λ n. ltb place n) extends.same_group

  -- a station that was present votes as before
  pub old_votes : (voter place : ℕ) → is_present board voter ≡ true → votes_at wider voter place ≡ votes_at board voter place
  old_votes voter place e =
      extends.same_votes voter place (ap (λ p. not p && is_present wider voter) e)

  kept_vote : (voter place : ℕ) → votes_at board voter place ≡ true → votes_at wider voter place ≡ true
  kept_vote voter place e = old_votes voter place (voter_present board voter place e) ∙ e

  pub candidate_kept : (place : ℕ) → candidate board place ≡ true → candidate wider place ≡ true
  candidate_kept place e = voted_candidate wider place place (kept_vote place place (own_vote board place e))

  member_of_wider : (place : ℕ) → is_present wider place ≡ true → member wider place ≡ true
  member_of_wider place e = lt-ltb place wider.n (present_member wider place e)

  pub absent_fewer : absent wider ≤ absent board
  absent_fewer =
      count_le (is_absent wider) (is_absent board) 16
      (λ place _ e.
      fewer (member board place) (is_present board place) (is_present wider place) (extends.none_lost place)
      (sym (ap (λ m. m && not (is_present wider place)) (same_member place)) ∙ e))

  pub voters_kept : (place : ℕ) → voters_at board place ≤ voters_at wider place
  voters_kept place =
      count_le (λ voter. votes_at board voter place) (λ voter. votes_at wider voter place) 16
      (λ voter _ e. kept_vote voter place e)

  -- counts with what is absent do not grow

  grown_at :
      (test wider-test : ℕ → Bool) (voter : ℕ)
      → (test voter ≡ true → is_present board voter ≡ true) → (wider-test voter ≡ true → is_present wider voter ≡ true)
      → (newly_present board wider voter ≡ false → wider-test voter ≡ test voter)
      → one (wider-test voter) + one (is_absent wider voter) ≤ one (test voter) + one (is_absent board voter)
  grown_at test wider-test voter a b same =
      let grows =
      grown (member wider voter) (is_present board voter) (is_present wider voter) (test voter) (wider-test voter) a b
      (extends.none_lost voter) same (member_of_wider voter) in
      let members = ap (λ m. one (m && not (is_present board voter))) (same_member voter) in
      omega (arith, grows, members)

  pub voters_grown : (place : ℕ) → voters_at wider place + absent wider ≤ voters_at board place + absent board
  voters_grown place =
      count_two (λ voter. votes_at wider voter place) (is_absent wider) (λ voter. votes_at board voter place) (is_absent board) 16
      (λ voter _.
      grown_at (λ k. votes_at board k place) (λ k. votes_at wider k place) voter
      (voter_present board voter place) (voter_present wider voter place) (extends.same_votes voter place))

  pub lead_kept : (first second : ℕ) → lead board first second ≤ lead wider first second
  lead_kept first second =
      count_le (λ voter. votes_at board voter first && not (votes_at board voter second))
      (λ voter. votes_at wider voter first && not (votes_at wider voter second)) 16
      (λ voter _ e.
      let there = voter_present board voter first (and_parts (votes_at board voter first) (not (votes_at board voter second)) e).0 in
      still (votes_at board voter first) (votes_at board voter second) (votes_at wider voter first) (votes_at wider voter second)
      (old_votes voter first there) (old_votes voter second there) e)

  pub lead_grown : (first second : ℕ) → lead wider first second + absent wider ≤ lead board first second + absent board
  lead_grown first second =
      count_two (λ voter. votes_at wider voter first && not (votes_at wider voter second)) (is_absent wider)
      (λ voter. votes_at board voter first && not (votes_at board voter second)) (is_absent board) 16
      (λ voter _.
      grown_at (λ k. votes_at board k first && not (votes_at board k second)) (λ k. votes_at wider k first && not (votes_at wider k second)) voter
      (λ e. voter_present board voter first (and_parts (votes_at board voter first) (not (votes_at board voter second)) e).0)
      (λ e. voter_present wider voter first (and_parts (votes_at wider voter first) (not (votes_at wider voter second)) e).0)
      (λ old. ap₂ (λ a b. a && not b) (extends.same_votes voter first old) (extends.same_votes voter second old)))

  -- over a candidate that is new, a candidate leads by all the voters that it had
  pub lead_over_new :
      (first second : ℕ) → candidate board second ≡ false → voters_at board first ≤ lead wider first second
  lead_over_new first second none =
      count_le (λ voter. votes_at board voter first) (λ voter. votes_at wider voter first && not (votes_at wider voter second)) 16
      (λ voter _ e.
      let there = voter_present board voter first e in
      ahead (votes_at board voter first) (votes_at board voter second) (votes_at wider voter first) (votes_at wider voter second)
      (old_votes voter first there) (old_votes voter second there) (no_votes board voter second none) e)

  pub all_still_present : all_present board ≡ true → all_present wider ≡ true
  all_still_present e =
      let none = eqb-true (absent board) 0 e in
      let fewer-now = absent_fewer in
      eq-eqb (absent wider) 0 (omega (arith, none, fewer-now))
