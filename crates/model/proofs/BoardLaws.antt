-- Orderly messages give a board, whatever is released. Assumes nothing.
use Rattle.std.proofs.Common.{◌≡◌, ℕ, zero, suc, ◌+◌, ◌^◌, ◌<◌, Bool, true, false, cond, not, ◌&&◌, eqb, leb, ◌⊎◌, List, length, Some, Ok, Option, sym, refl, ap, ◌∙◌, ap₂, inl, inr, ⊎_elim, pow-suc, arith, pow_pos, pow_mono}
use Rattle.std.proofs.lemmas.Grind.{common_steps}
use Rattle.std.proofs.lemmas.List.FromFn.{get_or-map-range_with_len, length-map-range_with_len}
use Rattle.std.proofs.lemmas.Bool.{and_from, cases_Bool, eq-eqb, le-leb, lt-ltb, or_left, or_right, true≢false}
use Rattle.board.proofs.Digits.{has-mask, has-zero, mask_below, mask_is}
use Rattle.board.proofs.Places.{all_from, some-from}
use Rattle.board.specs.Ballots as ballots
use Rattle.board.specs.Ballots.{fair, has_candidate, is_board, is_group, present_vote, votes_for, votes_for_itself}
use Rattle.board.specs.Boards.{board_decided}
use Rattle.board.specs.Sets.{any, every, has, implies, mask, up_to}
use Rattle.board.specs.declared.board.Board.{Board}
use Rattle.wire.specs.declared.message.Message.{Message}
use Rattle.model.specs.Accepted.{Accepted}
use Rattle.model.specs.Following.{count_of, follows}
use Rattle.model.specs.Heads as heads
use Rattle.model.specs.Heads.{Released, backs, head, present_set, ready_head, voter_sets, voters_of}
use Rattle.model.specs.Laws.{BoardsAreThere}
use Rattle.model.specs.Sound.{Orderly}
use Rattle.model.proofs.Followed.{head_backed, some-message}
use Rattle.model.proofs.Formed.{formed}

-- a set of places, of which only some below n pass
mask_fits :
    (test : ℕ → Bool) (bound n : ℕ) → ((place : ℕ) → test place ≡ true → place < n) → mask test bound < 2 ^ n
unfolding mask
mask_fits test zero n low = pow_pos n
mask_fits test (suc bound) n low =
    by_test (test bound) refl (mask_below test bound) (mask_fits test bound n low)
  where
    by_test :
        (passes : Bool) → test bound ≡ passes → mask test bound < 2 ^ bound → mask test bound < 2 ^ n
        → cond passes (2 ^ bound) 0 + mask test bound < 2 ^ n
    by_test true here inside below =
        omega (arith, inside, pow-suc 2 bound, pow_mono {i = suc bound} {j = n} (low bound here))
    by_test false here inside below = omega (arith, below)

implies-from : (premise conclusion : Bool) → (premise ≡ true → conclusion ≡ true) → implies premise conclusion ≡ true
implies-from = grind (arith, common_steps)

module _ (accepted : Accepted) (released : Released) where
  -- the heads, votes and sets of the section's messages

  abbrev head_of : ℕ → Option Message
  head_of station = head accepted released station

  abbrev stands : ℕ → Bool
  stands station = heads.is_candidate accepted released station

  abbrev is_present : ℕ → Bool
  is_present station = heads.is_present accepted released station

  abbrev votes : ℕ → ℕ → Bool
  votes voter station = heads.votes accepted released voter station

  abbrev present : ℕ
  present = present_set accepted released

  abbrev voters : List ℕ
  voters = voter_sets accepted released

  -- only present stations vote
  voter_present : (voter station : ℕ) → votes voter station ≡ true → is_present voter ≡ true
  voter_present voter station e = grind (arith, common_steps)

  -- where anybody votes, the candidate's own station does
  own_vote : (voter station : ℕ) → votes voter station ≡ true → votes station station ≡ true
  own_vote voter station e = grind (arith, common_steps)

  -- The sets, by these tests.

  votes_are : (place : ℕ) → place < 16 → votes_for voters place ≡ voters_of accepted released place
  unfolding voter_sets
  votes_are place below = get_or-map-range_with_len (voters_of accepted released) 0 16 place place 0 below (omega arith)

  sixteen : length voters ≡ 16
  unfolding voter_sets
  sixteen = length-map-range_with_len (voters_of accepted released) 0 16

  voter_in :
      (place voter : ℕ) → place < 16 → voter < 16 → has (votes_for voters place) voter ≡ votes (suc voter) (suc place)
  voter_in place voter below small =
      ap (λ s. has s voter) (votes_are place below) ∙ has-mask (λ k. votes (suc k) (suc place)) 16 voter small

  present_in : (place : ℕ) → place < 16 → has present place ≡ is_present (suc place)
  present_in place below = has-mask (λ k. is_present (suc k)) 16 place below

  present_votes : (place : ℕ) → place < 16 → present_vote present voters place ≡ true
  present_votes place below = grind (arith, common_steps, all_from, implies-from, present_in, voter_present, voter_in)

  itself_votes : (place : ℕ) → place < 16 → votes_for_itself voters place ≡ true
  itself_votes place below =
      ⊎_elim
      (λ e.
      implies-from (has_candidate voters place) (has (votes_for voters place) place)
      (λ _. voter_in place place below below ∙ e))
      (λ e.
      ap (λ s. implies (not (eqb s 0)) (has (votes_for voters place) place))
      (votes_are place below
      ∙ sym (mask_is (λ k. votes (suc k) (suc place)) 16 0 (omega arith)
      (λ k small. has-zero k ∙ sym (nobody e (suc k))))))
      (cases_Bool (votes (suc place) (suc place)))
    where
      nobody : votes (suc place) (suc place) ≡ false → (voter : ℕ) → votes voter (suc place) ≡ false
      nobody none voter =
          ⊎_elim (λ e. absurd (true≢false (sym (own_vote voter (suc place) e) ∙ none))) (λ e. e)
          (cases_Bool (votes voter (suc place)))

  -- What the messages' order gives.

  module _ (n : ℕ) (orderly : Orderly n accepted) where
    present_member : (place : ℕ) → is_present (suc place) ≡ true → place < n
    present_member place e =
        let found = some-message (head_of (suc place)) e in
        let named = orderly.named (suc place) (suc (released (suc place))) found.0 found.1 in
        let well = orderly.well (suc place) (suc (released (suc place))) found.0 found.1 in
        let member = (formed n found.0 well).member in
        omega (arith, named.0, member)

    -- a present station votes for the candidate that its head is or follows
    backed_vote :
        (place : ℕ) (message : Message) → place < 16 → head_of (suc place) ≡ Some message
        → (at : ℕ) × (at < 16) × (votes (suc place) (suc at) ≡ true)
    backed_vote place message below e =
        let found = head_backed n accepted orderly released place message below e in (
          found.at,
          found.small,
          and_from (stands (suc found.at)) (backs (head_of (suc place)) (head_of (suc found.at)))
              (ap (ready_head released) found.is ∙ found.ready)
              (ap₂ backs e found.is ∙ told found.at found.candidate found.is found.how),
        )
      where
        told :
            (at : ℕ) (candidate : Message) → head_of (suc at) ≡ Some candidate
            → (place ≡ at) ⊎ (released (suc at) < count_of message (suc at))
            → backs (Some message) (Some candidate) ≡ true
        told at candidate is (inl same) =
            let own = orderly.named (suc place) (suc (released (suc place))) message e in
            let theirs = orderly.named (suc at) (suc (released (suc at))) candidate is in
            or_left (eqb message.station candidate.station) (follows message candidate)
            (eq-eqb message.station candidate.station (omega (arith, own.0, theirs.0, same)))
        told at candidate is (inr more) =
            let theirs = orderly.named (suc at) (suc (released (suc at))) candidate is in
            let count = ap (count_of message) theirs.0 in
            or_right (eqb message.station candidate.station) (follows message candidate)
            (and_from (leb 1 candidate.number) (leb candidate.number (count_of message candidate.station))
            (le-leb 1 candidate.number (omega (arith, theirs.1)))
            (le-leb candidate.number (count_of message candidate.station) (omega (arith, theirs.1, count, more))))

    fair_at : (place : ℕ) → place < 16 → fair n present voters place ≡ true
    fair_at place below =
        and_from (up_to n (votes_for voters place)) (present_vote present voters place && votes_for_itself voters place)
        (ap (up_to n) (votes_are place below)
        ∙ lt-ltb (voters_of accepted released place) (2 ^ n)
        (mask_fits (λ voter. votes (suc voter) (suc place)) 16 n
        (λ voter e. present_member voter (voter_present (suc voter) (suc place) e))))
        (and_from (present_vote present voters place) (votes_for_itself voters place)
        (present_votes place below) (itself_votes place below))

    vote_at : (place : ℕ) → place < 16 → ballots.votes present voters place ≡ true
    vote_at place below =
        implies-from (has present place) (any (λ candidate. has (votes_for voters candidate) place))
        (λ here.
        let found = some-message (head_of (suc place)) (sym (present_in place below) ∙ here) in
        let vote = backed_vote place found.0 below found.1 in
        some-from (λ candidate. has (votes_for voters candidate) place) 16 vote.0 vote.1
        (voter_in vote.0 place vote.1 below ∙ vote.2))

    -- the present stations and their votes are a board of n
    pub board_holds : is_board n (present_set accepted released) (voter_sets accepted released) ≡ true
    board_holds =
        and_from (eqb (length voters) 16)
        (up_to n present && (every (fair n present voters) && every (ballots.votes present voters)))
        (eq-eqb (length voters) 16 sixteen)
        (and_from (up_to n present) (every (fair n present voters) && every (ballots.votes present voters))
        (lt-ltb present (2 ^ n) (mask_fits (λ place. is_present (suc place)) 16 n present_member))
        (and_from (every (fair n present voters)) (every (ballots.votes present voters))
        (all_from (fair n present voters) 16 fair_at) (all_from (ballots.votes present voters) 16 vote_at)))

-- sets that pass both tests are made a board
made :
    (n present : ℕ) (voters : List ℕ) (group holds : Bool)
    (g : is_group n ≡ group) (h : is_board n present voters ≡ holds)
    → group ≡ true → holds ≡ true → (board : Board) × (board_decided n present voters group holds g h ≡ Ok board)
made n those sets true true g h is_one is-so =
    (record { n = n; present = those; voters = sets; group = g; holds = h }, refl)
made n those sets true false g h is_one is-so = absurd (true≢false (sym is-so))
made n those sets false holds g h is_one is-so = absurd (true≢false (sym is_one))

pub boards_are_there : BoardsAreThere
boards_are_there n accepted released group orderly =
    made n (present_set accepted released) (voter_sets accepted released)
    (is_group n) (is_board n (present_set accepted released) (voter_sets accepted released)) refl refl
    group (board_holds accepted released n orderly)
