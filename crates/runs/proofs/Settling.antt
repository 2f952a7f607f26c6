-- What a settled board releases: heads that follow nothing unreleased, at least one; and when nobody is absent.
-- Assumes nothing.
use Rattle.std.proofs.Common.{◌≡◌, ℕ, zero, suc, ◌<◌, ◌≤◌, true, false, not, leb, List, is_some, Some, None, Ok, Option, sym, refl, ap, ◌∙◌, ⊎_elim, arith}
use Rattle.std.proofs.lemmas.List.FromFn.{get_or-map-range_with_len}
use Rattle.std.proofs.lemmas.Bool.{and_left, and_parts, and_right, cases_lt, eq-eqb, le-ltb, leb-true, true≢false}
use Rattle.board.proofs.Digits.{has-mask}
use Rattle.board.proofs.Facts.{candidate-place, group-last, own_vote, voter_member}
use Rattle.board.proofs.Places.{all-at, count-nothing}
use Rattle.board.specs.Ballots.{votes_for}
use Rattle.board.specs.Boards.{absent, all_present, board_decided, candidate, is_absent, member}
use Rattle.board.specs.Boards as boards
use Rattle.board.specs.Rules.{RuleMeaning}
use Rattle.board.specs.Rules as rules
use Rattle.board.specs.Sets.{has}
use Rattle.board.specs.declared.board.Board.{Board}
use Rattle.ties.specs.Ties.{TieMeaning}
use Rattle.ties.specs.Ties as ties
use Rattle.wire.specs.Messages.{well_formed}
use Rattle.wire.specs.declared.message.Message.{Message}
use Rattle.model.specs.Accepted.{Accepted}
use Rattle.model.specs.Calls.{next_wave}
use Rattle.model.specs.Following.{count_of}
use Rattle.model.specs.Heads.{Released, backs, board_at, head, is_candidate, is_present, is_ready, present_set, ready_head, voter_sets, voters_of, votes}
use Rattle.model.specs.Sound.{Sound}
use Rattle.model.specs.States.{State, known, released}
use Rattle.model.specs.Waves.{HeadsOf, IsWave, On, wave_of}
use Rattle.model.proofs.BoardSets.{MadeOf, made_of}
use Rattle.model.proofs.Followed.{some-message}
use Rattle.model.proofs.MessageFacts.{no_count-above}
use Rattle.model.proofs.WaveLaws.{waves_are_one}
use Rattle.runs.proofs.Reached.{Settled}

-- a head that is ready is there
some-ready : (released : Released) (found : Option Message) → ready_head released found ≡ true → is_some found ≡ true
some-ready released (Some message) e = refl
some-ready released None e = absurd (true≢false (sym e))

module _
    (n : ℕ) (accepted : Accepted) (released : Released) (board : Board)
    (shown : board_at n accepted released ≡ Ok board) where
  -- the board that is shown is of the station's group, with its present stations and voters
  shows : MadeOf n (present_set accepted released) (voter_sets accepted released) board
  shows = made_of n (present_set accepted released) (voter_sets accepted released) board shown

  pub board_size : board.n ≡ n
  board_size = shows.n_is

  pub group_small : n ≤ 16
  group_small = omega (arith, group-last board, board_size)

  -- a candidate of the board is a ready head, of a station of the group

  pub candidate_member : (place : ℕ) → candidate board place ≡ true → place < n
  candidate_member place e =
      omega (arith, voter_member board place place (own_vote board place e), board_size)

  pub candidate_ready : (place : ℕ) → candidate board place ≡ true → is_candidate accepted released (suc place) ≡ true
  unfolding voter_sets
  candidate_ready place e =
      let below = candidate-place board place e in
      let cast : has (votes_for (voter_sets accepted released) place) place ≡ true =
      sym (ap (λ (l : List ℕ). has (votes_for l place) place) shows.voters_are) ∙ own_vote board place e in
      let voted : votes accepted released (suc place) (suc place) ≡ true =
      sym (ap (λ (set : ℕ). has set place)
      (get_or-map-range_with_len (voters_of accepted released) 0 16 place place 0 below (omega arith))
      ∙ has-mask (λ voter. votes accepted released (suc voter) (suc place)) 16 place below)
      ∙ cast in
      (and_parts (is_candidate accepted released (suc place))
      (backs (head accepted released (suc place)) (head accepted released (suc place))) voted).0

  -- where every station of the group has a head, nobody is absent
  pub nobody_absent :
      ((place : ℕ) → place < n → is_present accepted released (suc place) ≡ true) → all_present board ≡ true
  nobody_absent each =
      eq-eqb (absent board) 0 (count-nothing (is_absent board) 16 here)
    where
      here : (place : ℕ) → place < 16 → is_absent board place ≡ false
      here place below =
          ⊎_elim
          (λ inside.
          and_right (member board place) (not (boards.is_present board place))
          (ap not (ap (λ (set : ℕ). has set place) shows.present_is
          ∙ has-mask (λ k. is_present accepted released (suc k)) 16 place below ∙ each place inside)))
          (λ outside.
          and_left (member board place) (not (boards.is_present board place))
          (le-ltb place board.n (omega (arith, outside, board_size))))
          (cases_lt place n)

-- The messages of a wave.

-- a message that is next of its station, and follows nothing unreleased
pub record Freed (state : State) (message : Message) : Type 0 where
  pub accepted : known state message.station message.number ≡ Some message
  pub next : message.number ≡ suc (released state message.station)
  pub ready : (station : ℕ) → count_of message station ≤ released state station

module _
    (state : State) (sound : Sound state) (rule : RuleMeaning) (lawful : rules.Lawful rule)
    (order : TieMeaning) (orderly : ties.Lawful order) (sources : ℕ) (settled : Settled state rule order sources) where
  abbrev heads : HeadsOf
  heads = head (known state) (released state)

  pub wave_is :
      IsWave order (next_wave state) (head (known state) (released state)) sources
      (wave_of order (next_wave state) (head (known state) (released state)) sources)
  wave_is =
      let small = group_small state.settings.n (known state) (released state) settled.board settled.board_is in
      (waves_are_one order (next_wave state) heads sources orderly (omega (arith, small, settled.order_n)) (omega arith)
      (λ station message e. (sound.kept.orderly.named station (suc (released state station)) message e).0)
      (λ place here.
      let below =
      candidate_member state.settings.n (known state) (released state) settled.board settled.board_is place
      (lawful.sources_are_candidates settled.board sources place settled.answer here) in
      omega (arith, below, settled.order_n))
      ).0

  source_ready : (place : ℕ) → has sources place ≡ true → ready_head (released state) (heads (suc place)) ≡ true
  source_ready place here =
      candidate_ready state.settings.n (known state) (released state) settled.board settled.board_is place
      (lawful.sources_are_candidates settled.board sources place settled.answer here)

  head_freed :
      (station : ℕ) (message : Message) → heads station ≡ Some message
      → ready_head (released state) (heads station) ≡ true → Freed state message
  head_freed station message e ready =
      let named = sound.kept.orderly.named station (suc (released state station)) message e in
      let well = sound.kept.orderly.well station (suc (released state station)) message e in
      record {
        accepted =
            ap (λ (k : ℕ). known state k message.number) named.0
            ∙ ap (λ (k : ℕ). known state station k) named.1 ∙ e;
        next = named.1 ∙ ap (λ (k : ℕ). suc (released state k)) (sym named.0);
        ready = counts (sym (ap (ready_head (released state)) e) ∙ ready) well;
      }
    where
      counts :
          is_ready (released state) message ≡ true → well_formed state.settings.n message ≡ true
          → (at : ℕ) → count_of message at ≤ released state at
      counts all well zero = omega arith
      counts all well (suc place) =
          ⊎_elim
          (λ below.
          leb-true (count_of message (suc place)) (released state (suc place))
          (all-at (λ k. leb (count_of message (suc k)) (released state (suc k))) 16 place all below))
          (λ past.
          let small =
          group_small state.settings.n (known state) (released state) settled.board settled.board_is in
          let none = no_count-above state.settings.n message (suc place) well (omega (arith, small, past)) in
          omega (arith, none))
          (cases_lt place 16)

  pub wave_freed :
      (message : Message) → On message (wave_of order (next_wave state) (head (known state) (released state)) sources)
      → Freed state message
  wave_freed message on =
      let source = wave_is.only_heads message on in
      head_freed (suc source.0) message source.2 (source_ready source.0 source.1)

  pub some_freed :
      (message : Message) × On message (wave_of order (next_wave state) (head (known state) (released state)) sources)
  some_freed =
      let source = lawful.some_source settled.board sources settled.answer in
      let found =
      some-message (heads (suc source.0))
      (some-ready (released state) (heads (suc source.0)) (source_ready source.0 source.1)) in
      (found.0, wave_is.all_heads found.0 (source.0, source.1, found.1))
