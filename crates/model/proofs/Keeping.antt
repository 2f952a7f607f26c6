-- What a station keeps when it is opened and when it accepts a message. Assumes nothing.
use Rattle.std.proofs.Common.{◌≡◌, ℕ, zero, suc, ◌+◌, ◌<◌, ◌≤◌, true, false, cond, not, eqb, ltb, ◌⊎◌, List, [], ◌∷◌, ◌++◌, is_some, Some, None, Option, sym, refl, ap, ◌∙◌, subst, ⊎_elim, le_trans, arith}
use Rattle.std.proofs.lemmas.Grind.{common_steps}
use Rattle.std.proofs.lemmas.Bool.{and_cases, cases_Bool, cases_lt, eq-eqb, eqb-true, eqb-false, ltb-false, not-false, true≢false}
use Rattle.board.proofs.Places.{one, some_not}
use Rattle.wire.specs.Messages.{well_formed}
use Rattle.wire.specs.declared.message.Message.{Message}
use Rattle.model.specs.Accepted.{accepted_as, crossed, early, is_crossed_by, is_named, lacks, some_exceeds, tally}
use Rattle.model.specs.Calls.{opened}
use Rattle.model.specs.Following.{count_of}
use Rattle.model.specs.Sound.{Begun, Gapless, Kept, Orderly, Sound}
use Rattle.model.specs.States.{Settings, State, accepting, known, on_roll, posting}
use Rattle.model.proofs.MessageFacts.{group_small, no_count-above, number_first, own_count}
use Rattle.model.proofs.Pushed.{accepted_new, accepted_old, found-is, on_push, tally-push}

-- Nothing is found where nothing is.

nothing-found : (station number : ℕ) → accepted_as [] station number ≡ None
unfolding accepted_as
nothing-found station number = refl

some-none : {A : Type 0} (message : A) (o : Option A) → o ≡ None → o ≡ Some message → ⊥
some-none message o none found = cc

-- Opening.

gapless-none : Gapless []
unfolding accepted_as tally
gapless-none station number = grind (arith, common_steps)

pub sound-opened : (settings : Settings) → Sound (opened settings)
sound-opened settings = grind (arith, common_steps, some-none, nothing-found, gapless-none)

-- Accepting a message that is well formed, new, not early and not crossed.

named-parts :
    (m : Message) (station number : ℕ) → is_named m station number ≡ true → (m.station ≡ station) × (m.number ≡ number)
named-parts m station number e = grind (arith, common_steps)

module _
    (n : ℕ) (ms : List Message) (m : Message) (kept : Kept n ms)
    (well : well_formed n m ≡ true) (fresh : accepted_as ms m.station m.number ≡ None)
    (timely : early (accepted_as ms) m ≡ false) (straight : crossed (accepted_as ms) m ≡ false) where
  -- all that it follows is there
  enough : (station : ℕ) → count_of m station ≤ tally ms station
  enough zero = omega arith
  enough (suc place) = ⊎_elim (λ below. inside (count_of m (suc place)) refl below) above (cases_lt place 16)
    where
      inside : (count : ℕ) → count_of m (suc place) ≡ count → place < 16 → count_of m (suc place) ≤ tally ms (suc place)
      inside zero e below = omega arith
      inside (suc before) e below =
          let none = some_not (lacks (accepted_as ms) m) 16 place timely below in
          let there = some_not (λ k. not (is_some (accepted_as ms (suc place) (suc k)))) (count_of m (suc place)) before none (omega arith) in
          let known_is = not-false (is_some (accepted_as ms (suc place) (suc before))) there in
          let bounds = (kept.gapless (suc place) (suc before)).0 known_is in
          omega (arith, bounds.1)

      above : 16 ≤ place → count_of m (suc place) ≤ tally ms (suc place)
      above past =
          let few = group_small n m well in
          let none = no_count-above n m (suc place) well (omega arith) in
          omega arith

  -- its number is the next of its station
  next_number : m.number ≡ suc (tally ms m.station)
  next_number = grind (arith, common_steps, own_count, enough, number_first, cases_lt, true≢false)

  -- a message under another name is found as before, and one that was found still is
  stays : (station number : ℕ) → is_some (accepted_as ms station number) ≡ true → is_some (accepted_as (ms ++ m ∷ []) station number) ≡ true
  stays station number e = grind (arith, common_steps, accepted_new, accepted_old, cases_Bool)

  gapless_more : Gapless (ms ++ m ∷ [])
  gapless_more station number =
      ⊎_elim
      (λ here.
      let same = named-parts m station number here in
      ((λ e. ((counted same).0, (counted same).1)), (λ h. ap is_some (accepted_new ms m station number here))))
      (λ other.
      let old = ap is_some (accepted_old ms m station number other) in (
        (λ e. let h = (kept.gapless station number).0 (sym old ∙ e) in (h.0, longer h.1)),
        (λ h. old ∙ (kept.gapless station number).1 (h.0, shorter other h.1)),
      ))
      (cases_Bool (is_named m station number))
    where
      long : tally (ms ++ m ∷ []) station ≡ tally ms station + cond (eqb m.station station) 1 0
      long = tally-push ms m station

      longer : number ≤ tally ms station → number ≤ tally (ms ++ m ∷ []) station
      longer h = omega (arith, long)

      counted : (m.station ≡ station) × (m.number ≡ number) → (1 ≤ number) × (number ≤ tally (ms ++ m ∷ []) station)
      counted same =
          let first = number_first n m well in
          let next = next_number in
          let at = ap (tally ms) same.0 in
          let more-one = ap one (eq-eqb m.station station same.0) in
          (omega (arith, same.1), omega (arith, long, same.1, more-one, at, next))

      shorter : is_named m station number ≡ false → number ≤ tally (ms ++ m ∷ []) station → number ≤ tally ms station
      shorter other h =
          ⊎_elim
          (λ apart.
          let none = ap one apart in omega (arith, long, none))
          (λ unlike.
          ⊎_elim
          (λ same.
          let at = ap (tally ms) (eqb-true m.station station same) in
          let more-one = ap one same in
          let next = next_number in
          ⊎_elim (λ less. omega arith)
          (λ more. absurd (eqb-false m.number number unlike (omega (arith, long, more-one, at, next))))
          (cases_lt number (suc (tally ms station))))
          (λ apart. let none = ap one apart in omega (arith, long, none))
          (cases_Bool (eqb m.station station)))
          (and_cases (eqb m.station station) (eqb m.number number) other)

  -- what is found now is the message itself, or was found before
  found_before :
      (station number : ℕ) (x : Message) → accepted_as (ms ++ m ∷ []) station number ≡ Some x
      → ((is_named m station number ≡ true) × (x ≡ m)) ⊎ (accepted_as ms station number ≡ Some x)
  found_before station number x e = grind (arith, common_steps, accepted_old, cases_Bool, accepted_new)

  -- what it follows is under another name than its own
  not_itself : (station : ℕ) → is_named m station (count_of m station) ≡ true → ⊥
  not_itself station here = grind (arith, common_steps, named-parts, own_count)

  -- the last message of a station that it follows has no larger count
  no_larger :
      (other : ℕ) (followed : Message) (third : ℕ) → accepted_as ms other (count_of m other) ≡ Some followed
      → count_of followed third ≤ count_of m third
  no_larger other followed zero e = omega arith
  no_larger zero followed (suc third) e = grind (arith, common_steps)
  no_larger (suc place) followed (suc third) e =
      ⊎_elim (λ below. ⊎_elim (inside below) (λ past. none past) (cases_lt third 16)) outside (cases_lt place 16)
    where
      some_count : 1 ≤ count_of m (suc place)
      some_count = ((kept.gapless (suc place) (count_of m (suc place))).0 (ap is_some e)).0

      none : 16 ≤ third → count_of followed (suc third) ≤ count_of m (suc third)
      none past =
          let fit = kept.orderly.well (suc place) (count_of m (suc place)) followed e in
          let few = group_small n followed fit in
          let no-count = no_count-above n followed (suc third) fit (omega arith) in
          omega arith

      outside : 16 ≤ place → count_of followed (suc third) ≤ count_of m (suc third)
      outside past =
          let few = group_small n m well in
          let no-count = no_count-above n m (suc place) well (omega arith) in
          let some = some_count in
          absurd (omega arith)

      inside : place < 16 → third < 16 → count_of followed (suc third) ≤ count_of m (suc third)
      inside below low =
          let none_here = some_not (is_crossed_by (accepted_as ms) m) 16 place straight below in
          ⊎_elim (λ zero-count. absurd (counted (not-false (eqb (count_of m (suc place)) 0) zero-count)))
          (λ not-larger.
          let fair = some_not (λ k. ltb (count_of m (suc k)) (count_of followed (suc k))) 16 third
          (sym (ap (λ o. some_exceeds o m) e) ∙ not-larger) low in
          ltb-false (count_of m (suc third)) (count_of followed (suc third)) fair)
          (and_cases (not (eqb (count_of m (suc place)) 0))
          (some_exceeds (accepted_as ms (suc place) (count_of m (suc place))) m) none_here)
        where
          counted : eqb (count_of m (suc place)) 0 ≡ true → ⊥
          counted e = let z = eqb-true (count_of m (suc place)) 0 e in let some = some_count in omega arith

  -- what an accepted message follows is under another name than the new one
  apart : (station number : ℕ) (x : Message) (other : ℕ)
      → accepted_as ms station number ≡ Some x → is_named m other (count_of x other) ≡ true → ⊥
  apart station number x other e here = grind (arith, common_steps)

  orderly_more : Orderly n (accepted_as (ms ++ m ∷ []))
  orderly_more =
      record {
        named =
            λ station number x e.
            let found = found-is (ms ++ m ∷ []) station number x e in (found.station_is, found.number_is);
        well =
            λ station number x e.
            ⊎_elim (λ new. ap (well_formed n) new.1 ∙ well) (λ old. kept.orderly.well station number x old)
            (found_before station number x e);
        closed =
            λ station number x other before e follows.
            stays other before
            (⊎_elim
            (λ new.
            let upto = enough other in
            (kept.gapless other before).1 (follows.0, le_trans follows.1 (subst (λ y. count_of y other ≤ tally ms other) (sym new.1) upto)))
            (λ old. kept.orderly.closed station number x other before old follows)
            (found_before station number x e));
        uncrossed =
            λ station number x other followed third e f.
            ⊎_elim (λ new. newer x other followed third new.1 f)
            (λ old. older station number x other followed third old f)
            (found_before station number x e);
      }
    where
      newer :
          (x : Message) (other : ℕ) (followed : Message) (third : ℕ) → x ≡ m
          → accepted_as (ms ++ m ∷ []) other (count_of x other) ≡ Some followed
          → count_of followed third ≤ count_of x third
      newer x other followed third same f =
          ⊎_elim
          (λ new. absurd (not_itself other (ap (λ y. is_named m other (count_of y other)) (sym same) ∙ new.0)))
          (λ old.
          let less = no_larger other followed third (ap (λ y. accepted_as ms other (count_of y other)) (sym same) ∙ old) in
          subst (λ y. count_of followed third ≤ count_of y third) (sym same) less)
          (found_before other (count_of x other) followed f)

      older :
          (station number : ℕ) (x : Message) (other : ℕ) (followed : Message) (third : ℕ)
          → accepted_as ms station number ≡ Some x
          → accepted_as (ms ++ m ∷ []) other (count_of x other) ≡ Some followed
          → count_of followed third ≤ count_of x third
      older station number x other followed third e f =
          ⊎_elim (λ new. absurd (apart station number x other e new.0))
          (λ old. kept.orderly.uncrossed station number x other followed third e old)
          (found_before other (count_of x other) followed f)

  pub kept_more : Kept n (ms ++ m ∷ [])
  kept_more = grind (arith, common_steps, orderly_more, gapless_more, on_push)

  pub begun_more : (roll : List Message) → Begun ms roll → Begun (ms ++ m ∷ []) roll
  begun_more roll begun = grind (arith, common_steps, named-parts, accepted_old, cases_Bool, some-none)

pub sound-accepting :
    (state : State) (m : Message) → Sound state → well_formed state.settings.n m ≡ true
    → known state m.station m.number ≡ None → early (known state) m ≡ false → crossed (known state) m ≡ false
    → Sound (accepting state m)
sound-accepting state m sound well fresh timely straight =
    record {
      kept = kept_more state.settings.n state.accepted m sound.kept well fresh timely straight;
      begun =
          begun_more state.settings.n state.accepted m sound.kept well fresh timely straight
          (on_roll state.roll) sound.begun;
      waves = sound.waves;
    }

-- posting leaves what holds of messages and roll
pub sound-posting : (state : State) → Sound state → Sound (posting state)
sound-posting state sound = record { kept = sound.kept; begun = sound.begun; waves = sound.waves }
