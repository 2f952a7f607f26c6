-- The board that kept heads and counts give is the board of the state. Assumes nothing.
use Rattle.std.proofs.Common.{◌≡◌, ℕ, zero, suc, ◌<◌, ◌≤◌, true, false, ◌&&◌, eqb, leb, List, map, length, get_or, is_some, Some, None, Ok, Err, Option, sym, refl, ap, ◌∙◌, ap₂, arith}
use mathlib.Core.Bool.{Bool-set}
use mathlib.Core.Logic.{∥∥₁_elim}
use native.Mathlib.Bridge.{le_prop}
use Rattle.std.specs.List.{range_with_len}
use Rattle.std.proofs.lemmas.List.FromFn.{fill_by_all, get_or-map-range_with_len, length-map-range_with_len}
use Rattle.std.proofs.lemmas.List.{length-map}
use Rattle.std.proofs.lemmas.Bool.{and_from, cond-false, cond-true, eq-eqb, not-false}
use Rattle.std.proofs.lemmas.Bool.Decides.{nat_tests}
use Rattle.board.specs.Ballots.{is_board, is_group}
use Rattle.board.specs.Boards.{board_of}
use Rattle.board.specs.Rules.{RuleMeaning}
use Rattle.board.specs.Sets.{has}
use Rattle.board.specs.declared.board.Board.{Board}
use Rattle.board.proofs.Made.{board_of_sets}
use Rattle.board.proofs.Places.{all_same, mask-same}
use Rattle.model.specs.Arrays.{counts_by_station, present_in, voter_sets_in, voters_in, votes_in}
use Rattle.model.specs.Calls.{release_decided, settled_wave, shown_board}
use Rattle.model.specs.Following.{count_of}
use Rattle.model.specs.Heads.{backs, board_at, is_present, present_set, ready_head, voter_sets, voters_of, votes}
use Rattle.model.specs.States.{State, is_shut, known, may_open, on_roll, released}
use Rattle.model.specs.Waves.{HeadsOf, add_head, heads_below, in_order, wave_of}
use Rattle.model.proofs.BoardLaws.{board_holds}
use Rattle.model.proofs.Pushed.{tally-few}
use Rattle.model.proofs.Written.{opened-live}
use Rattle.ties.specs.Ties.{TieMeaning}
use Rattle.wire.specs.declared.fault.Fault.TheVariants.{Setting}
use Rattle.wire.specs.declared.message.Message.{Message}
use Rattle.station.specs.Standing.{AreHeads, state_of_station}
use Rattle.station.specs.declared.station.Station.{Station}
use Rattle.station.proofs.Held.{count-told}
use Rattle.station.proofs.Shown.{entries-long}

module _ (station : Station) where
  abbrev state : State
  state = state_of_station station

  -- the kept count of a station is how many of its messages are on the roll
  pub released_told : (place : ℕ) → place < 16 → get_or station.released place 0 ≡ released state (suc place)
  released_told place below = count-told station.released (on_roll state.roll) place station.released_told below

  ready_told : (head : Option Message) → ready_head (counts_by_station station.released) head ≡ ready_head (released state) head
  ready_told (Some message) =
      all_same (λ place. leb (count_of message (suc place)) (counts_by_station station.released (suc place)))
      (λ place. leb (count_of message (suc place)) (released state (suc place))) 16
      (λ place below. ap (leb (count_of message (suc place))) (released_told place below))
  ready_told None = refl

  module _ (heads : List (Option Message)) (are : AreHeads station heads) where
    pub present_told : present_in heads ≡ present_set (known state) (released state)
    present_told =
        mask-same (λ place. is_some (get_or heads place None)) (λ place. is_present (known state) (released state) (suc place)) 16
        (λ place below. ap is_some (are place below))

    votes_told :
        (voter place : ℕ) → voter < 16 → place < 16
        → votes_in heads station.released voter place ≡ votes (known state) (released state) (suc voter) (suc place)
    votes_told voter place low below =
        ap₂ (λ a b. a && b)
        (ready_told (get_or heads place None) ∙ ap (ready_head (released state)) (are place below))
        (ap₂ backs (are voter low) (are place below))

    voters_told : (place : ℕ) → place < 16 → voters_in heads station.released place ≡ voters_of (known state) (released state) place
    voters_told place below =
        mask-same (λ voter. votes_in heads station.released voter place)
        (λ voter. votes (known state) (released state) (suc voter) (suc place)) 16
        (λ voter low. votes_told voter place low below)

    pub sets_told : voter_sets_in heads station.released ≡ voter_sets (known state) (released state)
    unfolding voter_sets_in voter_sets
    sets_told =
        fill_by_all (voters_of (known state) (released state)) (map (voters_in heads station.released) (range_with_len 0 16)) 16 0
        (length-map-range_with_len (voters_in heads station.released) 0 16)
        (λ k below.
        get_or-map-range_with_len (voters_in heads station.released) 0 16 k k 0 below (omega arith) ∙ voters_told k below)

    -- the sets are a board
    pub sets_hold :
        (present : ℕ) (voters : List ℕ) → present ≡ present_in heads → voters ≡ voter_sets_in heads station.released
        → is_board station.n present voters ≡ true
    sets_hold present voters p v =
        ap₂ (is_board station.n) (p ∙ present_told) (v ∙ sets_told)
        ∙ ∥∥₁_elim station.sound (Bool-set _ _) (λ sound. board_holds (known state) (released state) station.n sound.kept.orderly)

    pub board_told :
        (board : Board) → board.n ≡ station.n → board.present ≡ present_in heads
        → board.voters ≡ voter_sets_in heads station.released
        → board_at station.n (known state) (released state) ≡ Ok board
    board_told board n present voters =
        ap₂ (board_of station.n) (sym (present ∙ present_told)) (sym (voters ∙ sets_told))
        ∙ ap (λ k. board_of k board.present board.voters) (sym n)
        ∙ board_of_sets board

  -- an open station's group, and its released counts
  pub group_told : is_shut state ≡ false → is_group station.n ≡ true
  group_told live = (opened-live state live).group

-- Bounds of an open station.

pub roll-small : (state : State) → is_shut state ≡ false → state.settings.roll ≤ 4096
roll-small state live =
    let lawful = not-false (may_open state.settings) live in grind (arith, nat_tests)

module _ (station : Station) (live : is_shut (state_of_station station) ≡ false) where
  rolled_few : length (state_of_station station).roll ≤ 4096
  rolled_few =
      let long = entries-long station.roll.places.now station.roll.used station.roll.fits in
      let fits = station.roll.fits in
      let small = roll-small (state_of_station station) live in
      omega arith

  pub released_small : (place : ℕ) → place < 16 → get_or station.released place 0 ≤ 4096
  released_small place below =
      let told = released_told station place below in
      let few = tally-few (on_roll (state_of_station station).roll) (suc place) in
      let same = length-map (state_of_station station).roll (λ entry. entry.message) in
      let small = rolled_few in
      omega arith

  pub waves_small : station.waves ≤ 4096
  waves_small =
      ∥∥₁_elim station.sound le_prop
      (λ sound. let few = sound.waves in let small = rolled_few in let told = station.waves_told in omega arith)

-- Heads that agree at sixteen places have the same wave.

heads_below-same :
    (heads others : HeadsOf) (sources bound : ℕ) → bound ≤ 16
    → ((place : ℕ) → place < 16 → heads (suc place) ≡ others (suc place))
    → heads_below heads sources bound ≡ heads_below others sources bound
unfolding heads_below
heads_below-same heads others sources zero few same = refl
heads_below-same heads others sources (suc place) few same =
    ap₂ (add_head (has sources place)) (same place (omega arith)) (heads_below-same heads others sources place (omega arith) same)

pub wave-same :
    (order : TieMeaning) (number wave : ℕ) (heads others : HeadsOf) (sources : ℕ) → number ≡ wave
    → ((place : ℕ) → place < 16 → heads (suc place) ≡ others (suc place))
    → wave_of order number heads sources ≡ wave_of order wave others sources
unfolding wave_of
wave-same order number wave heads others sources one same =
    ap₂ (in_order order) one (heads_below-same heads others sources 16 (omega arith) same)

-- What a settled board decides.

pub decided-by :
    (state : State) (rule : RuleMeaning) (order : TieMeaning) (board : Board)
    → is_shut state ≡ false → rule.n ≡ state.settings.n → order.n ≡ state.settings.n
    → board_at state.settings.n (known state) (released state) ≡ Ok board
    → release_decided state rule order ≡ settled_wave state order (rule.answer board)
decided-by state rule order board live rule_n order_n board_is =
    cond-false (is_shut state) (Err Setting) _ live
    ∙ cond-true (eqb rule.n state.settings.n && eqb order.n state.settings.n) _ (Err Setting)
    (and_from (eqb rule.n state.settings.n) (eqb order.n state.settings.n) (eq-eqb rule.n state.settings.n rule_n)
    (eq-eqb order.n state.settings.n order_n))
    ∙ ap (shown_board state rule order) board_is
