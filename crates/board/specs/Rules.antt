-- What a rule is: its answer to each board, and the laws that its answers keep. Assumes nothing.
use Rattle.std.specs.Prelude.{◌≡◌, ℕ, true, cond, Some, None, Option, ◌==◌, ◌≢◌}
use Rattle.board.specs.Sets.{has}
use Rattle.board.specs.Boards.{all_present, candidate, Extends}
use Rattle.board.specs.declared.board.Board.{Board}

-- the meaning of a rule: the n that it is made for, and its answer to each board, which is none while the
-- board is open, or the set of the sources once it is settled
pub record RuleMeaning : Type 0 where
  pub n : ℕ
  pub answer : Board → Option ℕ

-- a rule for n is open on a board of another n
abbrev pub of_group : ℕ → Board → Option ℕ → Option ℕ
of_group n board answer = cond (board.n == n) answer None

-- The laws.

-- a board of another n is open
abbrev pub OnlyItsGroup : RuleMeaning → Type 0
OnlyItsGroup rule = (board : Board) → (board.n ≢ rule.n) → rule.answer board ≡ None

-- sources are candidates
abbrev pub SourcesAreCandidates : RuleMeaning → Type 0
SourcesAreCandidates rule =
    (board : Board) (sources place : ℕ) → rule.answer board ≡ Some sources → has sources place ≡ true
    → candidate board place ≡ true

-- there is at least one source
abbrev pub SomeSource : RuleMeaning → Type 0
SomeSource rule =
    (board : Board) (sources : ℕ) → rule.answer board ≡ Some sources → (place : ℕ) × (has sources place ≡ true)

-- extensions of a settled board are settled with the same sources
abbrev pub StaysSettled : RuleMeaning → Type 0
StaysSettled rule =
    (board wider : Board) (sources : ℕ) → Extends board wider → rule.answer board ≡ Some sources
    → rule.answer wider ≡ Some sources

-- a board of its n with all present is settled
abbrev pub SettlesWhenAllPresent : RuleMeaning → Type 0
SettlesWhenAllPresent rule =
    (board : Board) → board.n ≡ rule.n → all_present board ≡ true
    → (sources : ℕ) × (rule.answer board ≡ Some sources)

-- a rule is lawful when it keeps them all
pub record Lawful (rule : RuleMeaning) : Type 0 where
  pub only_its_group : OnlyItsGroup rule
  pub sources_are_candidates : SourcesAreCandidates rule
  pub some_source : SomeSource rule
  pub stays_settled : StaysSettled rule
  pub settles_when_all_present : SettlesWhenAllPresent rule
