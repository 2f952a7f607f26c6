-- A threshold over a lawful rule is lawful. Assumes nothing.
use Rattle.std.specs.Prelude.{◌≡◌, ℕ, ◌+◌, ◌<◌, ◌≤◌, Bool, true, false, cond, not, ◌&&◌, ◌||◌, ltb, ◌⊎◌, Some, None, Option, ◌≢◌, nat_le, nat_lt, refl}
use Rattle.std.proofs.Common.{inl, inr, ⊎_elim, sym, ap, ◌∙◌, arith}
use Rattle.std.proofs.lemmas.Bool.{and_from, and_parts, cases_Bool, eq-eqb, eqb-true, leb-true, le-leb, lt-ltb, le-ltb, ltb-true, ltb-false, true≢false}
use Rattle.std.proofs.lemmas.Bool.Decides.{nat_tests}
use Rattle.board.specs.Sets.{has, mask, implies, every, any, set_of}
use Rattle.board.specs.Boards.{absent, candidate, voters_at, lead, Extends}
use Rattle.board.specs.Rules.{RuleMeaning, Lawful, SourcesAreCandidates, SomeSource, StaysSettled, SettlesWhenAllPresent}
use Rattle.board.specs.declared.board.Board.{Board}
use Rattle.board.proofs.Places.{all-at, all_from, all_not, some_at, some-from, some_not, mask-same}
use Rattle.board.proofs.Digits.{has-mask, has-below, mask_below}
use Rattle.board.proofs.Extensions.{candidate_kept, absent_fewer, voters_kept, voters_grown, lead_kept, lead_grown, lead_over_new, no_voters, no_lead}
use Rattle.rules.specs.Thresholds.{few_absent, passes, cannot_pass, is_led, may_be_led, asks_below, source, out_of_it, settles, threshold}
use Rattle.rules.specs.Settled.{settled_either, settled_parts, group_settled, group_same, group_other}

-- The sentences as facts.

-- a candidate that leads over a place by more than Φ
record Leader (phi : ℕ) (board : Board) (place : ℕ) : Type 0 where
  other : ℕ
  stands : candidate board other ≡ true
  by : phi < lead board other place
  at : other < 16

led : (phi : ℕ) (board : Board) (place : ℕ) → is_led phi board place ≡ true → Leader phi board place
led phi board place e =
    let found = some_at (λ other. candidate board other && nat_lt phi (lead board other place)) 16 e in
    let both = and_parts (candidate board found.0) (nat_lt phi (lead board found.0 place)) found.2 in
    record { other = found.0; stands = both.0; by = ltb-true phi (lead board found.0 place) both.1; at = found.1 }

is_led_by : (phi : ℕ) (board : Board) (place : ℕ) → Leader phi board place → is_led phi board place ≡ true
is_led_by phi board place leader =
    some-from (λ other. candidate board other && nat_lt phi (lead board other place)) 16 leader.other leader.at
    (and_from (candidate board leader.other) (nat_lt phi (lead board leader.other place)) leader.stands
    (lt-ltb phi (lead board leader.other place) leader.by))

may_be_led_by : (phi : ℕ) (board : Board) (place : ℕ) → Leader phi board place → may_be_led phi board place ≡ true
may_be_led_by phi board place leader =
    some-from (λ other. candidate board other && nat_lt phi (lead board other place + absent board)) 16 leader.other leader.at
    (and_from (candidate board leader.other) (nat_lt phi (lead board leader.other place + absent board)) leader.stands
    (lt-ltb phi (lead board leader.other place + absent board) (more leader.by)))
  where
    more : phi < lead board leader.other place → phi < lead board leader.other place + absent board
    more h = omega arith

-- a candidate that passes
record Passing (phi : ℕ) (board : Board) : Type 0 where
  place : ℕ
  stands : candidate board place ≡ true
  over : phi < voters_at board place
  at : place < 16

-- what it takes to be settled
record Settling (phi : ℕ) (board : Board) : Type 0 where
  few : absent board ≤ phi
  passing : Passing phi board
  each : (place : ℕ) → place < 16 → out_of_it phi board place ≡ true

settling : (phi : ℕ) (board : Board) → settles phi board ≡ true → Settling phi board
settling phi board e =
    let whole =
    and_parts (few_absent phi board)
    (any (λ place. candidate board place && passes phi board place) && every (out_of_it phi board)) e in
    let rest = and_parts (any (λ place. candidate board place && passes phi board place)) (every (out_of_it phi board)) whole.1 in
    let found = some_at (λ place. candidate board place && passes phi board place) 16 rest.0 in
    let both = and_parts (candidate board found.0) (passes phi board found.0) found.2 in
    record {
      few = leb-true (absent board) phi whole.0;
      passing =
          record { place = found.0; stands = both.0; over = ltb-true phi (voters_at board found.0) both.1; at = found.1 };
      each = λ place h. all-at (out_of_it phi board) 16 place rest.1 h;
    }

settled_from : (phi : ℕ) (board : Board) → Settling phi board → settles phi board ≡ true
settled_from phi board s =
    and_from (few_absent phi board)
    (any (λ place. candidate board place && passes phi board place) && every (out_of_it phi board))
    (le-leb (absent board) phi s.few)
    (and_from (any (λ place. candidate board place && passes phi board place)) (every (out_of_it phi board))
    (some-from (λ place. candidate board place && passes phi board place) 16 s.passing.place s.passing.at
    (and_from (candidate board s.passing.place) (passes phi board s.passing.place) s.passing.stands
    (lt-ltb phi (voters_at board s.passing.place) s.passing.over)))
    (all_from (out_of_it phi board) 16 s.each))

-- a candidate that passes is a source, and so is one that none may lead
source_passing : (phi : ℕ) (board : Board) (p : Passing phi board) → source phi board p.place ≡ true
source_passing phi board p = by_passing (candidate board p.place) (passes phi board p.place) (may_be_led phi board p.place)
    p.stands (lt-ltb phi (voters_at board p.place) p.over)
  where
    by_passing : (c p l : Bool) → c ≡ true → p ≡ true → (c && (p || not l)) ≡ true
    by_passing c p l e f = grind (arith, nat_tests)

-- where a candidate passes, the rule below is not asked
not_asked : (phi : ℕ) (board : Board) → Passing phi board → asks_below phi board ≡ false
not_asked phi board p =
    ⊎_elim
    (λ e.
    let every_one =
    (and_parts (few_absent phi board) (every (λ place. implies (candidate board place) (cannot_pass phi board place))) e).1 in
    let here = all-at (λ place. implies (candidate board place) (cannot_pass phi board place)) 16 p.place every_one p.at in
    absurd (never (candidate board p.place) (voters_at board p.place) (absent board) p.stands p.over here))
    (λ e. e) (cases_Bool (asks_below phi board))
  where
    never : (c : Bool) (v u : ℕ) → c ≡ true → phi < v → implies c (nat_le (v + u) phi) ≢ true
    never true v u e over h = let bound = leb-true (v + u) phi h in omega arith
    never false v u e over h = absurd (true≢false (sym e))

-- a place that is out of the running: it cannot pass, and is led
record Out (phi : ℕ) (board : Board) (place : ℕ) : Type 0 where
  low : voters_at board place + absent board ≤ phi
  leader : Leader phi board place

out_no_source : (phi : ℕ) (board : Board) (place : ℕ) → Out phi board place → source phi board place ≡ false
out_no_source phi board place out =
    beaten (candidate board place) (passes phi board place) (may_be_led phi board place)
    (le-ltb phi (voters_at board place) (under out.low))
    (may_be_led_by phi board place out.leader)
  where
    under : voters_at board place + absent board ≤ phi → voters_at board place ≤ phi
    under h = omega arith

    beaten : (c p l : Bool) → p ≡ false → l ≡ true → (c && (p || not l)) ≡ false
    beaten c p l e f = grind (arith, nat_tests)

out_is_out : (phi : ℕ) (board : Board) (place : ℕ) → Out phi board place → out_of_it phi board place ≡ true
out_is_out phi board place out =
    concluded (candidate board place && not (source phi board place)) (cannot_pass phi board place && is_led phi board place)
    (and_from (cannot_pass phi board place) (is_led phi board place)
    (le-leb (voters_at board place + absent board) phi out.low) (is_led_by phi board place out.leader))
  where
    concluded : (x y : Bool) → y ≡ true → implies x y ≡ true
    concluded true y e = e
    concluded false y e = refl

source_is_not_out : (phi : ℕ) (board : Board) (place : ℕ) → source phi board place ≡ true → out_of_it phi board place ≡ true
source_is_not_out phi board place e =
    vacuous (candidate board place) (source phi board place) (cannot_pass phi board place && is_led phi board place) e
  where
    vacuous : (c s y : Bool) → s ≡ true → implies (c && not s) y ≡ true
    vacuous true true y h = refl
    vacuous false true y h = refl
    vacuous true false y h = absurd (true≢false (sym h))
    vacuous false false y h = absurd (true≢false (sym h))

-- An extension of a board that is settled in its own right.

module _ (phi : ℕ) (board wider : Board) (extends : Extends board wider) (s : Settling phi board) where
  passing_still : Passing phi wider
  passing_still =
      record {
        place = s.passing.place;
        stands = candidate_kept board wider extends s.passing.place s.passing.stands;
        over =
            let kept = voters_kept board wider extends s.passing.place in
            let over = s.passing.over in
            omega (arith, kept, over);
        at = s.passing.at;
      }

  -- a candidate that was no source is out of the running
  out_by : (place : ℕ) → place < 16 → candidate board place ≡ true → source phi board place ≡ false → Out phi wider place
  out_by place h stands no_source =
      let both = concluded (candidate board place) (source phi board place) (cannot_pass phi board place && is_led phi board place)
      stands no_source (s.each place h) in
      let parts = and_parts (cannot_pass phi board place) (is_led phi board place) both in
      let low = leb-true (voters_at board place + absent board) phi parts.0 in
      let leader = led phi board place parts.1 in
      let grown = voters_grown board wider extends place in
      let kept = lead_kept board wider extends leader.other place in
      let by = leader.by in
      record {
        low = omega (arith, grown, low);
        leader =
            record {
              other = leader.other;
              stands = candidate_kept board wider extends leader.other leader.stands;
              by = omega (arith, kept, by);
              at = leader.at;
            };
      }
    where
      concluded : (c f y : Bool) → c ≡ true → f ≡ false → implies (c && not f) y ≡ true → y ≡ true
      concluded c f y e g k = grind (arith, nat_tests)

  -- and so is a candidate that is new
  out_new : (place : ℕ) → candidate board place ≡ false → Out phi wider place
  out_new place none =
      let grown = voters_grown board wider extends place in
      let nobody = no_voters board place none in
      let few = s.few in
      let over = s.passing.over in
      let ahead = lead_over_new board wider extends s.passing.place place none in
      record {
        low = omega (arith, grown, nobody, few);
        leader =
            record {
              other = s.passing.place;
              stands = candidate_kept board wider extends s.passing.place s.passing.stands;
              by = omega (arith, over, ahead);
              at = s.passing.at;
            };
      }

  out_still : (place : ℕ) → place < 16 → source phi board place ≡ false → Out phi wider place
  out_still place h no_source =
      ⊎_elim (λ stands. out_by place h stands no_source) (λ none. out_new place none) (cases_Bool (candidate board place))

  -- where none might lead before, none may now
  unled_still : (place : ℕ) → may_be_led phi board place ≡ false → may_be_led phi wider place ≡ false
  unled_still place before =
      ⊎_elim
      (λ e.
      let found = some_at (λ other. candidate wider other && nat_lt phi (lead wider other place + absent wider)) 16 e in
      let over =
      ltb-true phi (lead wider found.0 place + absent wider)
      (and_parts (candidate wider found.0) (nat_lt phi (lead wider found.0 place + absent wider)) found.2).1 in
      let grown = lead_grown board wider extends found.0 place in
      let few = s.few in
      absurd (⊎_elim
      (λ stands.
      let unled = some_not (λ other. candidate board other && nat_lt phi (lead board other place + absent board)) 16 found.0 before found.1 in
      let led_here : ltb phi (lead board found.0 place + absent board) ≡ true = lt-ltb phi (lead board found.0 place + absent board) (omega (arith, over, grown)) in
      true≢false (sym (and_from (candidate board found.0) (nat_lt phi (lead board found.0 place + absent board)) stands led_here) ∙ unled))
      (λ none. let nothing = no_lead board found.0 place none in omega (arith, over, grown, nothing, few))
      (cases_Bool (candidate board found.0))))
      (λ e. e) (cases_Bool (may_be_led phi wider place))

  source_still : (place : ℕ) → source phi board place ≡ true → source phi wider place ≡ true
  source_still place e =
      let kept = voters_kept board wider extends place in
      let parts = and_parts (candidate board place) (passes phi board place || not (may_be_led phi board place)) e in
      again (candidate wider place) (passes phi board place) (may_be_led phi board place) (passes phi wider place) (may_be_led phi wider place)
      (candidate_kept board wider extends place parts.0)
      (λ p. let over = ltb-true phi (voters_at board place) p in lt-ltb phi (voters_at wider place) (omega (arith, over, kept)))
      (unled_still place) parts.1
    where
      again :
          (c p l p' l' : Bool) → c ≡ true → (p ≡ true → p' ≡ true) → (l ≡ false → l' ≡ false)
          → (p || not l) ≡ true → (c && (p' || not l')) ≡ true
      again c p l p' l' e f g h = grind (arith, nat_tests)

  same_source : (place : ℕ) → place < 16 → source phi wider place ≡ source phi board place
  same_source place h =
      ⊎_elim (λ e. source_still place e ∙ sym e)
      (λ e. out_no_source phi wider place (out_still place h e) ∙ sym e)
      (cases_Bool (source phi board place))

  settles_still : settles phi wider ≡ true
  settles_still =
      let few = s.few in
      let fewer = absent_fewer board wider extends in
      settled_from phi wider
      (record {
        few = omega (arith, few, fewer);
        passing = passing_still;
        each =
            λ place h.
            ⊎_elim (λ e. source_is_not_out phi wider place (source_still place e))
            (λ e. out_is_out phi wider place (out_still place h e))
            (cases_Bool (source phi board place));
      })

-- An extension of a board on which the rule below is asked.

asks_still : (phi : ℕ) (board wider : Board) → Extends board wider → asks_below phi board ≡ true → asks_below phi wider ≡ true
asks_still phi board wider extends e =
    let parts = and_parts (few_absent phi board) (every (λ place. implies (candidate board place) (cannot_pass phi board place))) e in
    let few = leb-true (absent board) phi parts.0 in
    let fewer = absent_fewer board wider extends in
    and_from (few_absent phi wider) (every (λ place. implies (candidate wider place) (cannot_pass phi wider place)))
    (le-leb (absent wider) phi (omega (arith, few, fewer)))
    (all_from (λ place. implies (candidate wider place) (cannot_pass phi wider place)) 16
    (λ place h.
    let here = all-at (λ k. implies (candidate board k) (cannot_pass phi board k)) 16 place parts.1 h in
    let grown = voters_grown board wider extends place in
    concluded (candidate wider place) (cannot_pass phi wider place)
    (le-leb (voters_at wider place + absent wider) phi
    (⊎_elim
    (λ stands.
    let low = leb-true (voters_at board place + absent board) phi (implied (candidate board place) (cannot_pass phi board place) here stands) in
    low_now place grown low)
    (λ none. let nobody = no_voters board place none in low_now place grown (few_voters place nobody few))
    (cases_Bool (candidate board place))))))
  where
    concluded : (x y : Bool) → y ≡ true → implies x y ≡ true
    concluded true y k = k
    concluded false y k = refl

    implied : (x y : Bool) → implies x y ≡ true → x ≡ true → y ≡ true
    implied true y h k = h
    implied false y h k = absurd (true≢false (sym k))

    low_now : (place : ℕ) → voters_at wider place + absent wider ≤ voters_at board place + absent board
        → voters_at board place + absent board ≤ phi → voters_at wider place + absent wider ≤ phi
    low_now place g l = omega arith

    few_voters : (place : ℕ) → voters_at board place ≡ 0 → absent board ≤ phi → voters_at board place + absent board ≤ phi
    few_voters place none few = omega arith

-- The laws.

module _ (phi : ℕ) (below : RuleMeaning) (lawful : Lawful below) where
  abbrev decided : Board → Option ℕ
  decided board = cond (settles phi board) (Some (set_of (source phi board))) None

  told :
      (board : Board) (sources : ℕ) → (threshold phi below).answer board ≡ Some sources
      → (board.n ≡ below.n)
      × (((asks_below phi board ≡ true) × (below.answer board ≡ Some sources))
      ⊎ ((asks_below phi board ≡ false) × (settles phi board ≡ true) × (set_of (source phi board) ≡ sources)))
  told board sources e =
      let group = group_settled below.n board sources (cond (asks_below phi board) (below.answer board) (decided board)) e in (
        group.0,
        ⊎_elim (λ asked. inl asked)
            (λ own. let parts = settled_parts (settles phi board) sources (set_of (source phi board)) own.1 in inr (own.0, parts.0, parts.1))
            (settled_either (asks_below phi board) sources (below.answer board) (decided board) group.1),
      )

  answers_below :
      (board : Board) (sources : ℕ) → board.n ≡ below.n → asks_below phi board ≡ true → below.answer board ≡ Some sources
      → (threshold phi below).answer board ≡ Some sources
  answers_below board sources same asks e =
      group_same below.n board (cond (asks_below phi board) (below.answer board) (decided board)) (eq-eqb board.n below.n same)
      ∙ ap (λ b. cond b (below.answer board) (decided board)) asks ∙ e

  answers_itself :
      (board : Board) → board.n ≡ below.n → asks_below phi board ≡ false → settles phi board ≡ true
      → (threshold phi below).answer board ≡ Some (set_of (source phi board))
  answers_itself board same asks e =
      group_same below.n board (cond (asks_below phi board) (below.answer board) (decided board)) (eq-eqb board.n below.n same)
      ∙ ap (λ b. cond b (below.answer board) (decided board)) asks
      ∙ ap (λ b. cond b (Some (set_of (source phi board))) None) e

  candidates : SourcesAreCandidates (threshold phi below)
  candidates board sources place e has_it =
      ⊎_elim (λ asked. lawful.sources_are_candidates board sources place asked.1 has_it)
      (λ own.
      let inside = ap (λ s. has s place) own.2 ∙ has_it in
      let at = has-below 16 (mask (source phi board) 16) place (mask_below (source phi board) 16) inside in
      (and_parts (candidate board place) (passes phi board place || not (may_be_led phi board place))
      (sym (has-mask (source phi board) 16 place at) ∙ inside)).0)
      (told board sources e).1

  one_source : SomeSource (threshold phi below)
  one_source board sources e =
      ⊎_elim (λ asked. lawful.some_source board sources asked.1)
      (λ own.
      let p = (settling phi board own.1).passing in (
        p.place,
        sym (ap (λ s. has s p.place) own.2) ∙ has-mask (source phi board) 16 p.place p.at ∙ source_passing phi board p,
      ))
      (told board sources e).1

  stays : StaysSettled (threshold phi below)
  stays board wider sources extends e =
      let parts = told board sources e in
      ⊎_elim
      (λ asked.
      answers_below wider sources (extends.same_group ∙ parts.0) (asks_still phi board wider extends asked.0)
      (lawful.stays_settled board wider sources extends asked.1))
      (λ own.
      let s = settling phi board own.1 in
      answers_itself wider (extends.same_group ∙ parts.0) (not_asked phi wider (passing_still phi board wider extends s))
      (settles_still phi board wider extends s)
      ∙ ap (λ (set : ℕ). some_set set)
      (mask-same (source phi wider) (source phi board) 16 (same_source phi board wider extends s) ∙ own.2))
      parts.1
    where
      some_set : ℕ → Option ℕ
      some_set set = Some set

  -- with all present, a board on which the rule below is not asked is settled
  complete_itself : (board : Board) → absent board ≡ 0 → asks_below phi board ≡ false → Settling phi board
  complete_itself board none asks =
      let few : absent board ≤ phi = omega (arith, none) in
      let failing =
      all_not (λ place. implies (candidate board place) (cannot_pass phi board place)) 16
      (unfew (few_absent phi board) (every (λ place. implies (candidate board place) (cannot_pass phi board place)))
      (le-leb (absent board) phi few) asks) in
      let parts = passed (candidate board failing.0) (voters_at board failing.0) (absent board) none failing.2 in
      record {
        few = few;
        passing = record { place = failing.0; stands = parts.0; over = parts.1; at = failing.1 };
        each = λ place h. each_out place;
      }
    where
      unfew : (x y : Bool) → x ≡ true → (x && y) ≡ false → y ≡ false
      unfew true y k e = e
      unfew false y k e = absurd (true≢false (sym k))

      passed : (c : Bool) (v u : ℕ) → u ≡ 0 → implies c (nat_le (v + u) phi) ≡ false → (c ≡ true) × (phi < v)
      passed true v u z e = (refl, grind (arith, nat_tests))
      passed false v u z e = absurd (true≢false e)

      same_led : (place : ℕ) → may_be_led phi board place ≡ true → is_led phi board place ≡ true
      same_led place e =
          let found = some_at (λ other. candidate board other && nat_lt phi (lead board other place + absent board)) 16 e in
          let both = and_parts (candidate board found.0) (nat_lt phi (lead board found.0 place + absent board)) found.2 in
          let by = ltb-true phi (lead board found.0 place + absent board) both.1 in
          is_led_by phi board place (record { other = found.0; stands = both.0; by = omega (arith, by, none); at = found.1 })

      judged :
          (c v l d : Bool) (low : Bool) → (v ≡ false → low ≡ true) → (l ≡ true → d ≡ true)
          → implies (c && not (c && (v || not l))) (low && d) ≡ true
      judged c v l d low f g = grind (arith, nat_tests)

      each_out : (place : ℕ) → out_of_it phi board place ≡ true
      each_out place =
          judged (candidate board place) (passes phi board place) (may_be_led phi board place) (is_led phi board place) (cannot_pass phi board place)
          (λ e.
          let low = ltb-false phi (voters_at board place) e in
          le-leb (voters_at board place + absent board) phi (omega (arith, low, none)))
          (same_led place)

  complete : SettlesWhenAllPresent (threshold phi below)
  complete board same all =
      let none = eqb-true (absent board) 0 all in
      ⊎_elim
      (λ asks.
      let found = lawful.settles_when_all_present board same all in
      (found.0, answers_below board found.0 same asks found.1))
      (λ asks. (
        set_of (source phi board),
        answers_itself board same asks (settled_from phi board (complete_itself board none asks)),
      ))
      (cases_Bool (asks_below phi board))

  pub threshold_lawful : Lawful (threshold phi below)
  threshold_lawful =
      record {
        only_its_group =
            λ board apart.
            group_other below.n board (cond (asks_below phi board) (below.answer board) (decided board)) apart;
        sources_are_candidates = candidates;
        some_source = one_source;
        stays_settled = stays;
        settles_when_all_present = complete;
      }
