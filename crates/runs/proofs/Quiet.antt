-- Equal when quiet: with the same accepted messages, and nothing ready since, two rolls of one group are equal.
-- Assumes nothing.
use Rattle.std.proofs.Common.{◌≡◌, ℕ, suc, ◌≤◌, Bool, true, false, cond, not, eqb, List, [], ◌∷◌, ◌++◌, is_some, Some, None, Err, Option, sym, refl, ap, ◌∙◌, subst, ap₂, inl, inr, ⊎_elim, arith}
use Rattle.std.proofs.lemmas.List.{append_assoc, append-nil}
use Rattle.std.proofs.lemmas.Bool.{and_from, cases_lt, eq-eqb, true≢false}
use Rattle.board.specs.Rules.{RuleMeaning}
use Rattle.board.specs.Rules as rules
use Rattle.ties.specs.Ties.{TieMeaning}
use Rattle.wire.specs.declared.fault.Fault.TheVariants.{Setting}
use Rattle.wire.specs.declared.message.Message.{Message}
use Rattle.model.specs.declared.entry.Entry.{Entry}
use Rattle.model.specs.Accepted.{accepted_as, is_named, or_else, tally}
use Rattle.model.specs.Calls.{release_of}
use Rattle.model.specs.Heads.{board_at}
use Rattle.model.specs.Sound.{Orderly, Sound}
use Rattle.model.specs.States.{Settings, State, is_shut, known, last_wave, may_open, on_roll, released}
use Rattle.model.specs.Waves.{On}
use Rattle.model.proofs.Followed.{some-message}
use Rattle.model.proofs.Pushed.{found-is}
use Rattle.model.proofs.Views.{Agree, Within, board-extended, sets_of}
use Rattle.runs.specs.Groups.{OneGroup, SameRule}
use Rattle.runs.specs.Promise.{EqualWhenQuiet}
use Rattle.runs.specs.Runs.{Call, HasAccepted, IsQuiet, Run, WasGiven, accepted_in, beginning, moment, state_at, release}
use Rattle.runs.proofs.InStep.{Settling, earlier, from_end, further_on, given, heard_at, heard_later, is-roll-told, last_settled, alike_at, roll_at, roll-more, same_rolls, size_at, turned}
use Rattle.runs.proofs.Reached.{Asked, Settled, accepted-append, accepted-told, asked, settings-kept, sound-at}
use Rattle.runs.proofs.SameWaves.{agree-from}

-- Where a rule finds a board open, it has settled no board of fewer messages with the same roll.

open_and_settled :
    (state wide : State) (rule rule' : RuleMeaning) (order order' : TieMeaning) (sources : ℕ)
    → Sound state → Sound wide → state.settings.n ≡ wide.settings.n → state.roll ≡ wide.roll
    → Within (known state) (known wide) → rules.Lawful rule → SameRule state.settings.n rule rule'
    → Settled state rule order sources → (found : Asked wide rule' order') → rule'.answer found.board ≡ None → ⊥
open_and_settled state wide rule rule' order order' sources sound sound' same_n same-roll within lawful same settled found none =
    let made =
    ap₂ (λ (n : ℕ) (roll : List Entry). board_at n (known wide) (tally (on_roll roll))) same_n same-roll ∙ found.board_is in
    let size = (sets_of state.settings.n (known wide) (released state) found.board made).n_is in
    let still =
    lawful.stays_settled settled.board found.board sources
    (board-extended state.settings.n (known state) (known wide) (released state) settled.board found.board
    sound.kept.orderly (subst (λ n. Orderly n (known wide)) (sym same_n) sound'.kept.orderly) within
    settled.board_is made)
    settled.answer in
    let alike = same found.board size in
    let never : ◌≡◌ {A = ℕ} 0 1 = cc in
    omega arith

-- What is on a list is found on it.

found_here :
    (later : Option Message) (here : Bool) (first : Message) → here ≡ true
    → is_some (or_else later (cond here (Some first) None)) ≡ true
found_here (Some message) here first e = refl
found_here None here first e = ap (λ b. is_some (cond b (Some first) None)) e

found-later : (later other : Option Message) → is_some later ≡ true → is_some (or_else later other) ≡ true
found-later (Some message) other e = refl
found-later None other e = absurd (true≢false (sym e))

on_found :
    (messages : List Message) (message : Message) → On message messages
    → is_some (accepted_as messages message.station message.number) ≡ true
unfolding accepted_as
on_found [] message on = elim on [ ]
on_found (first ∷ rest) message (inl e) =
    found_here (accepted_as rest message.station message.number)
    (is_named first message.station message.number) first
    (and_from (eqb first.station message.station) (eqb first.number message.number)
    (eq-eqb first.station message.station (ap (λ (m : Message). m.station) (sym e)))
    (eq-eqb first.number message.number (ap (λ (m : Message). m.number) (sym e))))
on_found (first ∷ rest) message (inr on) =
    found-later (accepted_as rest message.station message.number)
    (cond (is_named first message.station message.number) (Some first) None) (on_found rest message on)

nothing-first : {A : Type 0} (front rest : List A) → front ++ rest ≡ [] → front ≡ []
nothing-first [] rest e = refl
nothing-first (first ∷ front) rest e = absurd (let z : ◌≡◌ {A = ℕ} 0 1 = cc in omega arith)

-- Since nothing was ready.

module _
    {Held Reply : Type 0} (run other : Run Held Reply) (group : OneGroup run other) (calls later : List Call)
    (there : run.calls ≡ calls ++ later) (quiet : IsQuiet run calls) where
  -- the release that found nothing ready, the calls before it and those since
  abbrev before : List Call
  before = quiet.before

  abbrev last_release : Call
  last_release = release quiet.rule quiet.lawful quiet.order quiet.orderly

  counts : (release_of (state_at run before) quiet.rule quiet.order).answer ≡ Err Setting → ⊥
  counts refused =
      let nothing = quiet.nothing_ready in
      let never : ◌≡◌ {A = ℕ} 0 1 = cc in
      omega arith

  found_open : Asked (state_at run before) quiet.rule quiet.order
  found_open = asked (state_at run before) quiet.rule quiet.order (sound-at run before) counts

  was_open : quiet.rule.answer found_open.board ≡ None
  was_open = by_answer (quiet.rule.answer found_open.board) refl
    where
      by_answer :
          (answer : Option ℕ) → quiet.rule.answer found_open.board ≡ answer
          → quiet.rule.answer found_open.board ≡ None
      by_answer None e = e
      by_answer (Some sources) e =
          let settled = found_open.settled_answer sources e in
          let nothing = quiet.nothing_ready in
          absurd (let never : ◌≡◌ {A = ℕ} 0 1 = cc in omega arith)

  in-run : run.calls ≡ before ++ last_release ∷ (quiet.later ++ later)
  in-run = further_on run.calls calls later before last_release quiet.later there quiet.there

  was_given : WasGiven run quiet.rule quiet.order
  was_given =
      record {
        before = before;
        lawful = quiet.lawful;
        orderly = quiet.orderly;
        later = quiet.later ++ later;
        there = in-run;
        counts = counts;
      }

  release_accepts :
      accepted_in run.step (beginning run) (before ++ last_release ∷ []) ≡ accepted_in run.step (beginning run) before
  unfolding accepted_in
  release_accepts =
      accepted-append run.step (beginning run) before (last_release ∷ [])
      ∙ append-nil (accepted_in run.step (beginning run) before)

  -- no more is accepted since
  accepted_since :
      (more rest : List Call) → quiet.later ≡ more ++ rest
      → (state_at run (before ++ last_release ∷ more)).accepted ≡ (state_at run before).accepted
  accepted_since more rest within =
      sym (accepted-told run (before ++ last_release ∷ more))
      ∙ ap (accepted_in run.step (beginning run)) (sym (append_assoc before (last_release ∷ []) more))
      ∙ accepted-append run.step (beginning run) (before ++ last_release ∷ []) more
      ∙ ap₂ (λ (a b : List Message). a ++ b) release_accepts since
      ∙ append-nil (accepted_in run.step (beginning run) before)
      ∙ accepted-told run before
    where
      since : accepted_in run.step (moment run (before ++ last_release ∷ [])) more ≡ []
      since =
          nothing-first (accepted_in run.step (moment run (before ++ last_release ∷ [])) more) _
          (sym (accepted-append run.step (moment run (before ++ last_release ∷ [])) more rest)
          ∙ sym (ap (accepted_in run.step (moment run (before ++ last_release ∷ []))) within)
          ∙ quiet.none_since)

  -- with the same messages and the same roll no release settles
  no_settling :
      (at : List Call) (call : Call) (rest : List Call) (roll : List Entry) → run.calls ≡ at ++ call ∷ rest
      → (state_at run at).accepted ≡ (state_at run before).accepted → roll_at run at ≡ roll_at run before
      → Settling (state_at run at) roll call → ⊥
  no_settling at call rest roll within same-accepted same-roll settling =
      open_and_settled (state_at run at) (state_at run before) settling.rule quiet.rule
      settling.order quiet.order settling.sources (sound-at run at) (sound-at run before)
      (size_at run at ∙ sym (size_at run before)) same-roll
      (λ station number message e. ap (λ (l : List Message). accepted_as l station number) (sym same-accepted) ∙ e)
      settling.lawful
      (subst (λ n. SameRule n settling.rule quiet.rule) (sym (size_at run at))
      (group.same_rule settling.rule quiet.rule settling.order quiet.order
      (inl (given run at call rest roll within settling)) (inl was_given)))
      settling.settled found_open was_open

  -- so the roll stays as it is
  roll_since :
      (more rest : List Call) → quiet.later ≡ more ++ rest
      → roll_at run (before ++ last_release ∷ more) ≡ roll_at run before
  roll_since =
      from_end (λ more. (rest : List Call) → quiet.later ≡ more ++ rest
      → roll_at run (before ++ last_release ∷ more) ≡ roll_at run before)
      (λ rest within. stays before last_release (quiet.later ++ later) in-run refl refl)
      (λ more call below rest within.
      let shorter : quiet.later ≡ more ++ (call ∷ rest) = within ∙ append_assoc more (call ∷ []) rest in
      ap (roll_at run) (sym (append_assoc before (last_release ∷ more) (call ∷ [])))
      ∙ stays (before ++ last_release ∷ more) call (rest ++ later) (all more call rest shorter)
      (accepted_since more (call ∷ rest) shorter) (below (call ∷ rest) shorter))
    where
      stays :
          (at : List Call) (call : Call) (rest : List Call) → run.calls ≡ at ++ call ∷ rest
          → (state_at run at).accepted ≡ (state_at run before).accepted → roll_at run at ≡ roll_at run before
          → roll_at run (at ++ call ∷ []) ≡ roll_at run before
      stays at call rest within same-accepted same-roll =
          ⊎_elim (λ same. same ∙ same-roll)
          (λ settling.
          absurd (no_settling at call rest (roll_at run (at ++ call ∷ [])) within same-accepted same-roll settling))
          (roll-more run at call)

      all :
          (more : List Call) (call : Call) (rest : List Call) → quiet.later ≡ more ++ (call ∷ rest)
          → run.calls ≡ (before ++ last_release ∷ more) ++ call ∷ (rest ++ later)
      all more call rest shorter =
          further_on run.calls calls later (before ++ last_release ∷ more) call rest there
          (quiet.there ∙ ap (λ (l : List Call). before ++ last_release ∷ l) shorter
          ∙ sym (append_assoc before (last_release ∷ more) (call ∷ rest)))

  quiet_accepted : (state_at run calls).accepted ≡ (state_at run before).accepted
  quiet_accepted =
      ap (λ (c : List Call). (state_at run c).accepted) quiet.there
      ∙ accepted_since quiet.later [] (sym (append-nil quiet.later))

  quiet_roll : roll_at run calls ≡ roll_at run before
  quiet_roll = ap (roll_at run) quiet.there ∙ roll_since quiet.later [] (sym (append-nil quiet.later))

  -- a quiet station is open
  quiet_live : is_shut (state_at run calls) ≡ false
  quiet_live =
      ap (λ (s : Settings). not (may_open s))
      (settings-kept run.step (beginning run) calls ∙ sym (settings-kept run.step (beginning run) before))
      ∙ found_open.live

  -- Another run that has accepted no more.

  module _
      (calls' later' : List Call) (there' : other.calls ≡ calls' ++ later')
      (into : (message : Message) → HasAccepted other calls' message → HasAccepted run calls message) where
    agree :
        (at rest : List Call) → calls' ≡ at ++ rest → Agree (known (state_at run before)) (known (state_at other at))
    agree at rest within =
        agree-from (state_at run before).accepted (state_at other at).accepted
        (alike_at run other group before (last_release ∷ (quiet.later ++ later)) at (rest ++ later') in-run
        (there' ∙ ap (λ (c : List Call). c ++ later') within ∙ append_assoc at rest later'))

    -- what it knew at a moment is known
    within_at :
        (at rest : List Call) → calls' ≡ at ++ rest → Within (known (state_at other at)) (known (state_at run before))
    within_at at rest within station number message e =
        let found = found-is (state_at other at).accepted station number message e in
        let heard-there =
        subst (λ (c : List Call). HasAccepted other c message) (sym within)
        (heard_later other at rest message (heard_at other at message found.listed)) in
        let on : On message (state_at run before).accepted =
        subst (On message) (accepted-told run calls ∙ quiet_accepted) (into message heard-there) in
        let known_is =
        some-message (known (state_at run before) message.station message.number)
        (on_found (state_at run before).accepted message on) in
        let here = sym (ap₂ (known (state_at run before)) found.station_is found.number_is) ∙ known_is.1 in
        here ∙ ap Some (agree at rest within station number known_is.0 message here e)

    -- it has no wave more
    fewer : last_wave (roll_at other calls') ≤ last_wave (roll_at run calls)
    fewer =
        ⊎_elim (λ more. absurd (never more)) (λ few. few)
        (cases_lt (last_wave (roll_at run calls)) (last_wave (roll_at other calls')))
      where
        never : suc (last_wave (roll_at run calls)) ≤ last_wave (roll_at other calls') → ⊥
        never more =
            let found = earlier other calls' (suc (last_wave (roll_at run calls))) more in
            let last = last_settled other found.first (last_wave (roll_at run calls)) found.count_is in
            let up_to_lem =
            further_on calls' found.first found.later last.before last.call last.later found.there
            last.there in
            let all =
            further_on other.calls calls' later' last.before last.call (last.later ++ found.later) there'
            up_to_lem in
            let same-roll =
            same_rolls run other group (last_wave (roll_at run calls)) calls later last.before
            (last.call ∷ ((last.later ++ found.later) ++ later')) there all refl last.count_was in
            let settling = last.settling in
            open_and_settled (state_at other last.before) (state_at run before) settling.rule quiet.rule
            settling.order quiet.order settling.sources (sound-at other last.before) (sound-at run before)
            (size_at other last.before ∙ sym group.same_n ∙ sym (size_at run before)) (sym same-roll ∙ quiet_roll)
            (within_at last.before (last.call ∷ (last.later ++ found.later)) up_to_lem)
            settling.lawful
            (subst (λ n. SameRule n settling.rule quiet.rule)
            (group.same_n ∙ sym (size_at other last.before))
            (group.same_rule settling.rule quiet.rule settling.order quiet.order
            (inr (given other last.before last.call ((last.later ++ found.later) ++ later')
            (roll_at other found.first) all settling)) (inl was_given)))
            settling.settled found_open was_open

pub equal_when_quiet : {Held Reply : Type 0} → EqualWhenQuiet Held Reply
equal_when_quiet run other group calls later calls' later' there there' same quiet quiet' entries entries' is is' =
    let few = fewer run other group calls later there quiet calls' later' there' (λ message on. (same message).1 on) in
    let few' =
    fewer other run (turned run other group) calls' later' there' quiet' calls later there
    (λ message on. (same message).0 on) in
    is-roll-told (state_at run calls) entries is
    ∙ ap (λ shut. cond shut [] (roll_at run calls)) (quiet_live run other group calls later there quiet)
    ∙ same_rolls run other group (last_wave (roll_at run calls)) calls later calls' later' there there' refl
    (omega (arith, few, few'))
    ∙ sym (ap (λ shut. cond shut [] (roll_at other calls'))
    (quiet_live other run (turned run other group) calls' later' there' quiet'))
    ∙ sym (is-roll-told (state_at other calls') entries' is')
