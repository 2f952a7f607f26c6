-- Roll call is lawful. Assumes nothing.
use Rattle.std.specs.Prelude.{◌≡◌, ℕ, ◌<◌, true, cond, Some, None, Option}
use Rattle.std.proofs.Common.{sym, ap, ◌∙◌, arith}
use Rattle.std.proofs.lemmas.Bool.{eq-eqb}
use Rattle.board.specs.Sets.{has, mask, set_of}
use Rattle.board.specs.Boards.{all_present, candidate}
use Rattle.board.specs.Rules.{Lawful, SourcesAreCandidates, SomeSource, StaysSettled, SettlesWhenAllPresent}
use Rattle.board.specs.declared.board.Board.{Board}
use Rattle.board.proofs.Places.{mask-same}
use Rattle.board.proofs.Digits.{has-mask, has-below, mask_below}
use Rattle.board.proofs.Facts.{group-first, none-absent, votes-some, voted_candidate, own_vote, voter_member}
use Rattle.board.proofs.Extensions.{old_votes, candidate_kept, all_still_present}
use Rattle.rules.specs.RollCalls.{roll_call}
use Rattle.rules.specs.Settled.{same_tests, settled_parts, group_settled, group_same, group_other}

-- what an answer of the rule says
told : (n : ℕ) (board : Board) (sources : ℕ) → (roll_call n).answer board ≡ Some sources
    → (board.n ≡ n) × (all_present board ≡ true) × (set_of (candidate board) ≡ sources)
told n board sources e =
    let group = group_settled n board sources (cond (all_present board) (Some (set_of (candidate board))) None) e in
    let parts = settled_parts (all_present board) sources (set_of (candidate board)) group.1 in
    (group.0, parts.0, parts.1)

answers : (n : ℕ) (board : Board) → board.n ≡ n → all_present board ≡ true
    → (roll_call n).answer board ≡ Some (set_of (candidate board))
answers n board same all =
    group_same n board (cond (all_present board) (Some (set_of (candidate board))) None) (eq-eqb board.n n same)
    ∙ ap (λ b. cond b (Some (set_of (candidate board))) None) all

candidates : (n : ℕ) → SourcesAreCandidates (roll_call n)
candidates n board sources place e has_it =
    let parts = told n board sources e in
    let inside = ap (λ s. has s place) parts.2 ∙ has_it in
    let below = has-below 16 (mask (candidate board) 16) place (mask_below (candidate board) 16) inside in
    sym (has-mask (candidate board) 16 place below) ∙ inside

one_source : (n : ℕ) → SomeSource (roll_call n)
one_source n board sources e =
    let parts = told n board sources e in
    let found = votes-some board 0 (none-absent board 0 parts.1 (group-first board)) in (
      found.0,
      sym (ap (λ s. has s found.0) parts.2) ∙ has-mask (candidate board) 16 found.0 found.1
          ∙ voted_candidate board 0 found.0 found.2,
    )

stays : (n : ℕ) → StaysSettled (roll_call n)
stays n board wider sources extends e =
    let parts = told n board sources e in
    answers n wider (extends.same_group ∙ parts.0) (all_still_present board wider extends parts.1)
    ∙ ap (λ (s : ℕ). some_set s)
    (mask-same (candidate wider) (candidate board) 16
    (λ place below.
    same_tests (candidate wider place) (candidate board place)
    (λ there.
    let voter = own_vote wider place there in
    let member = subst_member (voter_member wider place place voter) extends.same_group in
    voted_candidate board place place
    (sym (old_votes board wider extends place place (none-absent board place parts.1 member)) ∙ voter))
    (candidate_kept board wider extends place))
    ∙ parts.2)
  where
    some_set : ℕ → Option ℕ
    some_set s = Some s

    subst_member : {place n' m : ℕ} → place < n' → n' ≡ m → place < m
    subst_member h same = omega arith

complete : (n : ℕ) → SettlesWhenAllPresent (roll_call n)
complete n board same all = (set_of (candidate board), answers n board same all)

pub roll_call_lawful : (n : ℕ) → Lawful (roll_call n)
roll_call_lawful n =
    record {
      only_its_group =
          λ board apart. group_other n board (cond (all_present board) (Some (set_of (candidate board))) None) apart;
      sources_are_candidates = candidates n;
      some_source = one_source n;
      stays_settled = stays n;
      settles_when_all_present = complete n;
    }
