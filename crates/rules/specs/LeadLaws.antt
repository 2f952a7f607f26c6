-- The rule of a lead station of the group is lawful. Assumes nothing.
use Rattle.std.specs.Prelude.{◌≡◌, ℕ, ◌-◌, ◌<◌, ◌≤◌, true, cond, Some, None, Option}
use Rattle.std.proofs.Common.{sym, ap, ◌∙◌, arith}
use Rattle.std.proofs.lemmas.Bool.{and_from, and_parts, eq-eqb}
use Rattle.board.specs.Sets.{has, mask, set_of}
use Rattle.board.specs.Boards.{candidate, votes_at, is_present}
use Rattle.board.specs.Rules.{Lawful, SourcesAreCandidates, SomeSource, StaysSettled, SettlesWhenAllPresent}
use Rattle.board.specs.declared.board.Board.{Board}
use Rattle.board.proofs.Places.{mask-same}
use Rattle.board.proofs.Digits.{has-mask, has-below, mask_below}
use Rattle.board.proofs.Facts.{none-absent, votes-some, voted_candidate}
use Rattle.board.proofs.Extensions.{old_votes, candidate_kept}
use Rattle.rules.specs.LeadStations.{chosen_by, lead_station}
use Rattle.rules.specs.Settled.{same_tests, settled_parts, group_settled, group_same, group_other}

told : (n station : ℕ) (board : Board) (sources : ℕ) → (lead_station n station).answer board ≡ Some sources
    → (board.n ≡ n) × (is_present board (station - 1) ≡ true) × (set_of (chosen_by board (station - 1)) ≡ sources)
told n station board sources e =
    let group =
    group_settled n board sources (cond (is_present board (station - 1)) (Some (set_of (chosen_by board (station - 1)))) None) e in
    let parts = settled_parts (is_present board (station - 1)) sources (set_of (chosen_by board (station - 1))) group.1 in
    (group.0, parts.0, parts.1)

answers : (n station : ℕ) (board : Board) → board.n ≡ n → is_present board (station - 1) ≡ true
    → (lead_station n station).answer board ≡ Some (set_of (chosen_by board (station - 1)))
answers n station board same there =
    group_same n board (cond (is_present board (station - 1)) (Some (set_of (chosen_by board (station - 1)))) None)
    (eq-eqb board.n n same)
    ∙ ap (λ b. cond b (Some (set_of (chosen_by board (station - 1)))) None) there

candidates : (n station : ℕ) → SourcesAreCandidates (lead_station n station)
candidates n station board sources place e has_it =
    let parts = told n station board sources e in
    let inside = ap (λ s. has s place) parts.2 ∙ has_it in
    let below = has-below 16 (mask (chosen_by board (station - 1)) 16) place (mask_below (chosen_by board (station - 1)) 16) inside in
    (and_parts (candidate board place) (votes_at board (station - 1) place)
    (sym (has-mask (chosen_by board (station - 1)) 16 place below) ∙ inside)).0

one_source : (n station : ℕ) → SomeSource (lead_station n station)
one_source n station board sources e =
    let parts = told n station board sources e in
    let found = votes-some board (station - 1) parts.1 in (
      found.0,
      sym (ap (λ s. has s found.0) parts.2) ∙ has-mask (chosen_by board (station - 1)) 16 found.0 found.1
          ∙ and_from (candidate board found.0) (votes_at board (station - 1) found.0)
          (voted_candidate board (station - 1) found.0 found.2) found.2,
    )

stays : (n station : ℕ) → StaysSettled (lead_station n station)
stays n station board wider sources extends e =
    let parts = told n station board sources e in
    let votes : (place : ℕ) → votes_at wider (station - 1) place ≡ votes_at board (station - 1) place = λ place. old_votes board wider extends (station - 1) place parts.1 in
    answers n station wider (extends.same_group ∙ parts.0) (extends.none_lost (station - 1) parts.1)
    ∙ ap (λ (s : ℕ). some_set s)
    (mask-same (chosen_by wider (station - 1)) (chosen_by board (station - 1)) 16
    (λ place below.
    same_tests (chosen_by wider (station - 1) place) (chosen_by board (station - 1) place)
    (λ there.
    let vote = sym (votes place) ∙ (and_parts (candidate wider place) (votes_at wider (station - 1) place) there).1 in
    and_from (candidate board place) (votes_at board (station - 1) place)
    (voted_candidate board (station - 1) place vote) vote)
    (λ here.
    let both = and_parts (candidate board place) (votes_at board (station - 1) place) here in
    and_from (candidate wider place) (votes_at wider (station - 1) place)
    (candidate_kept board wider extends place both.0) (votes place ∙ both.1)))
    ∙ parts.2)
  where
    some_set : ℕ → Option ℕ
    some_set s = Some s

complete : (n station : ℕ) → 1 ≤ station → station ≤ n → SettlesWhenAllPresent (lead_station n station)
complete n station first last board same all = (
  set_of (chosen_by board (station - 1)),
  answers n station board same (none-absent board (station - 1) all (below board.n same)),
)
  where
    below : (size : ℕ) → size ≡ n → station - 1 < size
    below size e = omega arith

pub lead_station_lawful : (n station : ℕ) → 1 ≤ station → station ≤ n → Lawful (lead_station n station)
lead_station_lawful n station first last =
    record {
      only_its_group =
          λ board apart.
          group_other n board (cond (is_present board (station - 1)) (Some (set_of (chosen_by board (station - 1)))) None) apart;
      sources_are_candidates = candidates n station;
      some_source = one_source n station;
      stays_settled = stays n station;
      settles_when_all_present = complete n station first last;
    }
