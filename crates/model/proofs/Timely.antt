-- Early by counts: something that a message follows is missing just where its count is above the tally.
-- Assumes nothing.
use Rattle.std.proofs.Common.{◌≡◌, ℕ, suc, ◌<◌, ◌≤◌, Bool, true, false, not, ltb, List, is_some, sym, ◌∙◌, ⊎_elim, arith}
use Rattle.std.proofs.lemmas.Grind.{common_steps}
use Rattle.std.proofs.lemmas.Bool.{cases_Bool, cases_lt, le-ltb, lt-ltb, not_from_true, not_from_false, true≢false}
use Rattle.board.specs.Sets.{any, some}
use Rattle.board.proofs.Places.{some_at, some-from, some_same}
use Rattle.wire.specs.declared.message.Message.{Message}
use Rattle.model.specs.Accepted.{accepted_as, early, lacks, tally}
use Rattle.model.specs.Following.{count_of}
use Rattle.model.specs.Sound.{Gapless}

-- at one place
pub lacks-told :
    (messages : List Message) (message : Message) (place : ℕ) → Gapless messages
    → ltb (tally messages (suc place)) (count_of message (suc place)) ≡ lacks (accepted_as messages) message place
lacks-told messages message place gapless =
    ⊎_elim
    (λ short.
    lt-ltb (tally messages (suc place)) (count_of message (suc place)) short
    ∙ sym (some-from missing (count_of message (suc place)) (tally messages (suc place)) short (not_from_false (is_there (tally messages (suc place))) next)))
    (λ enough.
    le-ltb (tally messages (suc place)) (count_of message (suc place)) enough
    ∙ sym (⊎_elim (λ some-missing. absurd (none enough some-missing)) (λ e. e) (cases_Bool (some missing (count_of message (suc place))))))
    (cases_lt (tally messages (suc place)) (count_of message (suc place)))
  where
    is_there : ℕ → Bool
    is_there before = is_some (accepted_as messages (suc place) (suc before))

    missing : ℕ → Bool
    missing before = not (is_some (accepted_as messages (suc place) (suc before)))

    next : is_some (accepted_as messages (suc place) (suc (tally messages (suc place)))) ≡ false
    next =
        ⊎_elim
        (λ there. absurd (never ((gapless (suc place) (suc (tally messages (suc place)))).0 there).1))
        (λ e. e)
        (cases_Bool (is_some (accepted_as messages (suc place) (suc (tally messages (suc place))))))
      where
        never : suc (tally messages (suc place)) ≤ tally messages (suc place) → ⊥
        never h = omega arith

    none : count_of message (suc place) ≤ tally messages (suc place) → some missing (count_of message (suc place)) ≡ true → ⊥
    none enough e =
        let found = some_at missing (count_of message (suc place)) e in
        let there = (gapless (suc place) (suc found.0)).1 (first found.0, within found.0 found.1) in
        true≢false (sym found.2 ∙ not_from_true (is_there found.0) there)
      where
        first : (k : ℕ) → 1 ≤ suc k
        first k = omega arith

        within : (k : ℕ) → k < count_of message (suc place) → suc k ≤ tally messages (suc place)
        within k h = omega arith

pub early-told :
    (messages : List Message) (message : Message) → Gapless messages
    → any (λ place. ltb (tally messages (suc place)) (count_of message (suc place))) ≡ early (accepted_as messages) message
early-told messages message gapless = grind (arith, common_steps, some_same, lacks-told)
