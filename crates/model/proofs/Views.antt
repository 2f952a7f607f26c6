-- Boards of more messages: a wider view extends the board, and two views of one group settle on the same sources.
-- Assumes nothing.
use Rattle.std.proofs.Common.{◌≡◌, ℕ, suc, ◌<◌, ◌≤◌, Bool, true, false, not, ◌&&◌, eqb, ltb, leb, ◌⊎◌, is_some, Some, None, Ok, Option, sym, refl, ap, ◌∙◌, ap₂, ⊎_elim, arith}
use Rattle.std.proofs.lemmas.Grind.{common_steps}
use Rattle.std.proofs.lemmas.List.FromFn.{get_or-map-range_with_len, length-map-range_with_len}
use Rattle.std.proofs.lemmas.List.{get_or_past}
use Rattle.std.proofs.lemmas.Bool.{and_from, and_parts, and_right, cases_Bool, cases_lt, eqb-true, leb-true, or_cases, true≢false}
use Rattle.board.proofs.Collected.{has_collected}
use Rattle.board.proofs.Digits.{has-zero}
use Rattle.board.proofs.Facts.{own_vote, voter_member, voter_present}
use Rattle.board.specs.Ballots.{is_group, votes_for}
use Rattle.board.specs.Boards as boards
use Rattle.board.specs.Boards.{Extends, board_decided, votes_at}
use Rattle.board.specs.Rules.{Lawful, RuleMeaning}
use Rattle.board.specs.Sets.{has}
use Rattle.board.specs.declared.board.Board.{Board}
use Rattle.wire.specs.Messages.{well_formed}
use Rattle.wire.specs.declared.message.Message.{Message}
use Rattle.model.proofs.BoardSets.{MadeOf, made_of}
use Rattle.model.specs.Accepted.{Accepted, or_else}
use Rattle.model.specs.Following.{Follows, count_of, follows}
use Rattle.model.specs.Heads.{Released, backs, board_at, head, is_candidate, is_present, present_set, ready_head, voter_sets, voters_of, votes}
use Rattle.model.specs.Sound.{Orderly}
use Rattle.model.proofs.BoardLaws.{boards_are_there}
use Rattle.model.proofs.Followed.{some-message}
use Rattle.model.proofs.Formed.{formed}

-- what the first view has, the second has too
abbrev pub Within : Accepted → Accepted → Type 0
Within accepted wider =
    (station number : ℕ) (message : Message) → accepted station number ≡ Some message → wider station number ≡ Some message

-- where both views have a message, it is the same
abbrev pub Agree : Accepted → Accepted → Type 0
Agree accepted other =
    (station number : ℕ) (message message' : Message) → accepted station number ≡ Some message
    → other station number ≡ Some message' → message ≡ message'

nothing-there : {A : Type 0} (message : A) (found : Option A) → found ≡ None → found ≡ Some message → ⊥
nothing-there message found none some = cc

-- What is on the board of a view.

module _
    (n : ℕ) (accepted : Accepted) (released : Released) (board : Board)
    (made : board_at n accepted released ≡ Ok board) where
  pub sets_of : MadeOf n (present_set accepted released) (voter_sets accepted released) board
  sets_of = made_of n (present_set accepted released) (voter_sets accepted released) board made

  pub present_at : (place : ℕ) → boards.is_present board place ≡ (ltb place 16 && is_present accepted released (suc place))
  present_at place = grind (arith, common_steps, sets_of, has_collected)

  vote_inside :
      (voter place : ℕ) → place < 16
      → votes_at board voter place ≡ (ltb voter 16 && votes accepted released (suc voter) (suc place))
  unfolding voter_sets
  vote_inside voter place below =
      ap (λ v. has (votes_for v place) voter) sets_of.voters_are
      ∙ ap (λ s. has s voter) (get_or-map-range_with_len (voters_of accepted released) 0 16 place place 0 below (omega arith))
      ∙ has_collected (λ k. votes accepted released (suc k) (suc place)) 16 voter

  vote_outside : (voter place : ℕ) → 16 ≤ place → votes_at board voter place ≡ false
  unfolding voter_sets
  vote_outside voter place past = grind (arith, common_steps, sets_of, get_or_past, length-map-range_with_len, has-zero)

-- The board of a wider view.

-- who has no head does not vote
absent-votes :
    (accepted : Accepted) (released : Released) (voter station : ℕ) → is_present accepted released voter ≡ false
    → votes accepted released voter station ≡ false
absent-votes accepted released voter station absent = grind (arith, common_steps)

-- a vote at one of the sixteen places, where the voter is not newly present
old_vote :
    (inside there now vote vote' : Bool) → (not (inside && there) && (inside && now)) ≡ false
    → ((there ≡ false → now ≡ false) → vote' ≡ vote) → (inside && vote') ≡ (inside && vote)
old_vote = grind (arith, common_steps)

module _
    (n : ℕ) (accepted wider : Accepted) (released : Released)
    (orderly : Orderly n accepted) (later : Orderly n wider) (within : Within accepted wider) where
  -- a head does not back a head that is new: what it follows is there already
  backs_nothing_new :
      (voter station : ℕ) (own other : Message) → head accepted released voter ≡ Some own
      → head accepted released station ≡ None → head wider released station ≡ Some other
      → backs (Some own) (Some other) ≡ false
  backs_nothing_new voter station own other e none new =
      ⊎_elim
      (λ backing.
      absurd (⊎_elim itself follower (or_cases (eqb own.station other.station) (follows own other) backing)))
      (λ not-backing. not-backing) (cases_Bool (backs (Some own) (Some other)))
    where
      itself : eqb own.station other.station ≡ true → ⊥
      itself same =
          let own-named = orderly.named voter (suc (released voter)) own e in
          let named = later.named station (suc (released station)) other new in
          let one = sym own-named.0 ∙ eqb-true own.station other.station same ∙ named.0 in
          nothing-there own (head accepted released station) none (sym (ap (head accepted released) one) ∙ e)

      follower : follows own other ≡ true → ⊥
      follower follow =
          let named = later.named station (suc (released station)) other new in
          let both = and_parts (leb 1 other.number) (leb other.number (count_of own other.station)) follow in
          let there =
          orderly.closed voter (suc (released voter)) own other.station other.number e
          (leb-true 1 other.number both.0, leb-true other.number (count_of own other.station) both.1) in
          true≢false (sym there ∙ ap is_some (ap₂ accepted named.0 named.1 ∙ none))

  -- a station that had its head, or still has none, votes as before
  votes_kept :
      (voter station : ℕ) → (is_present accepted released voter ≡ false → is_present wider released voter ≡ false)
      → votes wider released voter station ≡ votes accepted released voter station
  votes_kept voter station old = by_voter (head accepted released voter) refl
    where
      stays : (at : ℕ) (message : Message) → head accepted released at ≡ Some message → head wider released at ≡ Some message
      stays at message e = within at (suc (released at)) message e

      by_head :
          (own : Message) → head accepted released voter ≡ Some own
          → (found now : Option Message) → head accepted released station ≡ found → head wider released station ≡ now
          → (ready_head released now && backs (Some own) now) ≡ (ready_head released found && backs (Some own) found)
      by_head own e (Some message) now is new =
          let same : now ≡ Some message = sym new ∙ stays station message is in
          ap (λ o. ready_head released o && backs (Some own) o) same
      by_head own e None None is new = refl
      by_head own e None (Some other) is new =
          and_right (ready_head released (Some other)) (backs (Some own) (Some other))
          (backs_nothing_new voter station own other e is new)

      by_voter :
          (found : Option Message) → head accepted released voter ≡ found
          → votes wider released voter station ≡ votes accepted released voter station
      by_voter (Some own) e =
          ap (λ o. is_candidate wider released station && backs o (head wider released station)) (stays voter own e)
          ∙ by_head own e (head accepted released station) (head wider released station) refl refl
          ∙ sym (ap (λ o. is_candidate accepted released station && backs o (head accepted released station)) e)
      by_voter None e =
          absent-votes wider released voter station (old (ap is_some e))
          ∙ sym (absent-votes accepted released voter station (ap is_some e))

  pub extended :
      (board wide : Board) → board_at n accepted released ≡ Ok board → board_at n wider released ≡ Ok wide
      → Extends board wide
  extended board wide made made_Wide =
      record {
        same_group =
            (sets_of n wider released wide made_Wide).n_is ∙ sym (sets_of n accepted released board made).n_is;
        none_lost = kept;
        same_votes =
            λ voter place old.
            ⊎_elim (inside voter place old)
            (λ past.
            vote_outside n wider released wide made_Wide voter place past
            ∙ sym (vote_outside n accepted released board made voter place past))
            (cases_lt place 16);
      }
    where
      now_at : (place : ℕ) → boards.is_present wide place ≡ (ltb place 16 && is_present wider released (suc place))
      now_at = present_at n wider released wide made_Wide

      then_at : (place : ℕ) → boards.is_present board place ≡ (ltb place 16 && is_present accepted released (suc place))
      then_at = present_at n accepted released board made

      kept : (place : ℕ) → boards.is_present board place ≡ true → boards.is_present wide place ≡ true
      kept place e =
          let both = and_parts (ltb place 16) (is_present accepted released (suc place)) (sym (then_at place) ∙ e) in
          let found = some-message (head accepted released (suc place)) both.1 in
          now_at place
          ∙ and_from (ltb place 16) (is_present wider released (suc place)) both.0
          (ap is_some (within (suc place) (suc (released (suc place))) found.0 found.1))

      inside :
          (voter place : ℕ) → boards.newly_present board wide voter ≡ false → place < 16
          → votes_at wide voter place ≡ votes_at board voter place
      inside voter place old below =
          vote_inside n wider released wide made_Wide voter place below
          ∙ old_vote (ltb voter 16) (is_present accepted released (suc voter)) (is_present wider released (suc voter))
          (votes accepted released (suc voter) (suc place)) (votes wider released (suc voter) (suc place))
          (sym (ap₂ (λ a b. not a && b) (then_at voter) (now_at voter)) ∙ old)
          (votes_kept (suc voter) (suc place))
          ∙ sym (vote_inside n accepted released board made voter place below)

pub board-extended :
    (n : ℕ) (accepted wider : Accepted) (released : Released) (board wide : Board)
    → Orderly n accepted → Orderly n wider → Within accepted wider
    → board_at n accepted released ≡ Ok board → board_at n wider released ≡ Ok wide → Extends board wide
board-extended n accepted wider released board wide orderly later within made made_Wide =
    extended n accepted wider released orderly later within board wide made made_Wide

-- The union of two views.

abbrev pub union : Accepted → Accepted → Accepted
union accepted other station number = or_else (accepted station number) (other station number)

-- a part of a view, whose numbers run from 1, keeps in the whole what it has of its own
module _
    (n : ℕ) (part whole : Accepted) (orderly : Orderly n part) (within : Within part whole)
    (numbered : (station number : ℕ) (message : Message) → whole station number ≡ Some message → 1 ≤ number) where
  closed_in :
      (station number : ℕ) (message : Message) (other before : ℕ) → part station number ≡ Some message
      → Follows message other before → is_some (whole other before) ≡ true
  closed_in station number message other before e follow =
      let found = some-message (part other before) (orderly.closed station number message other before e follow) in
      ap is_some (within other before found.0 found.1)

  uncrossed_in :
      (station number : ℕ) (message : Message) (other : ℕ) (followed : Message) (third : ℕ)
      → part station number ≡ Some message → whole other (count_of message other) ≡ Some followed
      → count_of followed third ≤ count_of message third
  uncrossed_in station number message other followed third e f =
      let first = numbered other (count_of message other) followed f in
      let there = orderly.closed station number message other (count_of message other) e (first, omega arith) in
      let found = some-message (part other (count_of message other)) there in
      let now = within other (count_of message other) found.0 found.1 in
      let same : found.0 ≡ followed = cc in
      orderly.uncrossed station number message other followed third e (found.1 ∙ ap Some same)

module _ (accepted other : Accepted) where
  pub within_left : Within accepted (union accepted other)
  within_left station number message e = ap (λ o. or_else o (other station number)) e

  pub within_right : Agree accepted other → Within other (union accepted other)
  within_right agree station number message e = grind (arith, common_steps)

  in_either :
      (station number : ℕ) (message : Message) → union accepted other station number ≡ Some message
      → (accepted station number ≡ Some message) ⊎ (other station number ≡ Some message)
  in_either station number message e = grind (arith, common_steps)

pub union_orderly :
    (n : ℕ) (accepted other : Accepted) → Orderly n accepted → Orderly n other → Agree accepted other
    → Orderly n (union accepted other)
union_orderly n accepted other orderly theirs agree =
    record {
      named = named;
      well = well;
      closed =
          λ station number message other-station before e follow.
          ⊎_elim
          (λ left. closed_in n accepted (union accepted other) orderly (within_left accepted other) numbered
          station number message other-station before left follow)
          (λ right. closed_in n other (union accepted other) theirs (within_right accepted other agree) numbered
          station number message other-station before right follow)
          (in_either accepted other station number message e);
      uncrossed =
          λ station number message other-station followed third e f.
          ⊎_elim
          (λ left. uncrossed_in n accepted (union accepted other) orderly (within_left accepted other) numbered
          station number message other-station followed third left f)
          (λ right. uncrossed_in n other (union accepted other) theirs (within_right accepted other agree) numbered
          station number message other-station followed third right f)
          (in_either accepted other station number message e);
    }
  where
    well :
        (station number : ℕ) (message : Message) → union accepted other station number ≡ Some message
        → well_formed n message ≡ true
    well station number message e =
        ⊎_elim (orderly.well station number message) (theirs.well station number message)
        (in_either accepted other station number message e)

    named :
        (station number : ℕ) (message : Message) → union accepted other station number ≡ Some message
        → (message.station ≡ station) × (message.number ≡ number)
    named station number message e =
        ⊎_elim (orderly.named station number message) (theirs.named station number message)
        (in_either accepted other station number message e)

    numbered :
        (station number : ℕ) (message : Message) → union accepted other station number ≡ Some message → 1 ≤ number
    numbered station number message e =
        let fit = formed n message (well station number message e) in
        let number_is = (named station number message e).1 in
        omega (arith, fit.numbered, number_is)

-- Rules on the boards of views.

-- the sources of a settled board are stations of the group that have heads
module _
    (n : ℕ) (accepted : Accepted) (released : Released) (rule : RuleMeaning) (board : Board) (sources place : ℕ)
    (lawful : Lawful rule) (made : board_at n accepted released ≡ Ok board)
    (settled : rule.answer board ≡ Some sources) (source : has sources place ≡ true) where
  own_voter : votes_at board place place ≡ true
  own_voter = own_vote board place (lawful.sources_are_candidates board sources place settled source)

  pub source_member : place < n
  source_member =
      let size = (sets_of n accepted released board made).n_is in
      let below = voter_member board place place own_voter in
      omega (arith, size, below)

  pub source_head : (message : Message) × (head accepted released (suc place) ≡ Some message)
  source_head =
      let there = voter_present board place place own_voter in
      let both =
      and_parts (ltb place 16) (is_present accepted released (suc place))
      (sym (present_at n accepted released board made place) ∙ there) in
      some-message (head accepted released (suc place)) both.1

pub same-sources :
    (n : ℕ) (accepted other : Accepted) (released : Released) (rule rule' : RuleMeaning) (board board' : Board)
    (sources sources' : ℕ)
    → Orderly n accepted → Orderly n other → Agree accepted other → Lawful rule
    → ((wide : Board) → wide.n ≡ n → rule.answer wide ≡ rule'.answer wide)
    → board_at n accepted released ≡ Ok board → board_at n other released ≡ Ok board'
    → rule.answer board ≡ Some sources → rule'.answer board' ≡ Some sources' → sources ≡ sources'
same-sources n accepted other released rule rule' board board' sources sources' orderly theirs agree lawful same made made' settled settled' =
    let size = (sets_of n accepted released board made).n_is in
    let size' = (sets_of n other released board' made').n_is in
    let whole = union_orderly n accepted other orderly theirs agree in
    let wide = boards_are_there n (union accepted other) released (sym (ap is_group size) ∙ board.group) whole in
    let left =
    lawful.stays_settled board wide.0 sources
    (board-extended n accepted (union accepted other) released board wide.0 orderly whole
    (within_left accepted other) made wide.1) settled in
    let right =
    lawful.stays_settled board' wide.0 sources'
    (board-extended n other (union accepted other) released board' wide.0 theirs whole
    (within_right accepted other agree) made' wide.1) (same board' size' ∙ settled') in
    cc

-- a source of both has one head
pub same_heads :
    (n : ℕ) (accepted other : Accepted) (released : Released) (rule rule' : RuleMeaning) (board board' : Board)
    (sources place : ℕ)
    → Agree accepted other → Lawful rule → Lawful rule'
    → board_at n accepted released ≡ Ok board → board_at n other released ≡ Ok board'
    → rule.answer board ≡ Some sources → rule'.answer board' ≡ Some sources → has sources place ≡ true
    → head accepted released (suc place) ≡ head other released (suc place)
same_heads n accepted other released rule rule' board board' sources place agree lawful lawful' made made' settled settled' source = grind (arith, common_steps, source_head)
