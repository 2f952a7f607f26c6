-- Rolls in step: of the rolls at two moments of two runs of one group, one is a beginning of the other.
-- Assumes nothing.
use Rattle.std.proofs.Common.{◌≡◌, ℕ, zero, suc, ◌≤◌, Bool, true, false, cond, ◌⊎◌, List, [], ◌∷◌, ◌++◌, length, Some, None, Ok, Err, Option, Result, sym, refl, ap, ◌∙◌, subst, ap₂, subst₂, inl, inr, ⊎_elim, arith}
use Rattle.std.proofs.lemmas.List.{append_assoc, append-nil}
use Rattle.std.proofs.lemmas.Bool.{cases_eq, cases_lt}
use Rattle.std.specs.List.{slice_get}
use Rattle.board.specs.Rules.{RuleMeaning}
use Rattle.board.specs.Rules as rules
use Rattle.ties.specs.Ties.{TieMeaning}
use Rattle.ties.specs.Ties as ties
use Rattle.wire.specs.declared.fault.Fault.{Fault}
use Rattle.wire.specs.declared.fault.Fault.TheVariants.{Setting}
use Rattle.wire.specs.declared.message.Message.{Message}
use Rattle.model.proofs.Released.{last_more, on_some}
use Rattle.model.specs.declared.entry.Entry.{Entry}
use Rattle.model.specs.Calls.{as_entries, offer_decided, outcome, post_decided, release_decided, release_of, show_decided, show_of, shown_entry, wave_from, write_decided}
use Rattle.model.specs.Heads.{head}
use Rattle.model.specs.Sound.{Sound}
use Rattle.model.specs.States.{Settings, State, accepting, entry_at, is_shut, known, last_wave, posting, released, releasing}
use Rattle.model.specs.Waves.{On, wave_of}
use Rattle.runs.specs.Groups.{OneGroup, SameOrder, SameRule}
use Rattle.runs.specs.Promise.{Begins, RollsInStep}
use Rattle.runs.specs.Runs.{Call, HasAccepted, IsRoll, Moment, Run, Step, WasGiven, after, beginning, call_next, moment, state_at, write, offer, release, post, show}
use Rattle.runs.proofs.Reached.{Asked, Settled, accepted-append, accepted-told, after-append, asked, settings-kept, sound-at}
use Rattle.runs.proofs.SameWaves.{AlikeIn, same-wave, some-entry}

-- Calls, from the last one backwards.

pub from_end :
    (Holds : List Call → Type 0) → Holds []
    → ((calls : List Call) (call : Call) → Holds calls → Holds (calls ++ call ∷ [])) → (calls : List Call) → Holds calls
from_end Holds none more calls = go [] calls none
  where
    go : (done rest : List Call) → Holds done → Holds (done ++ rest)
    go done [] here = subst Holds (sym (append-nil done)) here
    go done (call ∷ rest) here =
        subst Holds (append_assoc done (call ∷ []) rest) (go (done ++ call ∷ []) rest (more done call here))

pub moment_more :
    {Held Reply : Type 0} (run : Run Held Reply) (calls : List Call) (call : Call)
    → moment run (calls ++ call ∷ []) ≡ call_next run.step (moment run calls) call
unfolding after
moment_more run calls call = after-append run.step (beginning run) calls (call ∷ [])

-- the roll at a moment of a run
abbrev pub roll_at : {Held Reply : Type 0} → Run Held Reply → List Call → List Entry
roll_at run calls = (state_at run calls).roll

-- What a call does to the roll.

-- a release that puts a wave on a roll, and the roll that it leaves
pub record Settling (state : State) (roll : List Entry) (call : Call) : Type 0 where
  pub rule : RuleMeaning
  pub lawful : rules.Lawful rule
  pub order : TieMeaning
  pub orderly : ties.Lawful order
  pub is : call ≡ release rule lawful order orderly
  pub counts : (release_of state rule order).answer ≡ Err Setting → ⊥
  pub sources : ℕ
  pub settled : Settled state rule order sources
  pub roll_is : roll ≡ state.roll ++ wave_from state order sources

roll-kept :
    {Decided Answer : Type 0} (state : State) (decided : Result Decided Fault) (tell : Decided → Answer)
    (leave : Decided → State)
    → ((value : Decided) → (leave value).roll ≡ state.roll) → (outcome state decided tell leave).next.roll ≡ state.roll
roll-kept state (Ok value) tell leave same = same value
roll-kept state (Err fault) tell leave same = refl

-- the roll after a release: as it was, or with a wave more
abbrev RollAfter : State → (rule : RuleMeaning) → rules.Lawful rule → (order : TieMeaning) → ties.Lawful order → Type 0
RollAfter state rule lawful order orderly =
    ((release_of state rule order).next.roll ≡ state.roll)
    ⊎ Settling state (release_of state rule order).next.roll (release rule lawful order orderly)

module _
    (state : State) (rule : RuleMeaning) (lawful : rules.Lawful rule)
    (order : TieMeaning) (orderly : ties.Lawful order) where
  counted_roll :
      ((release_of state rule order).answer ≡ Err Setting → ⊥) → (found : Asked state rule order)
      → (answer : Option ℕ) → rule.answer found.board ≡ answer → RollAfter state rule lawful order orderly
  counted_roll counts found None is = inl (ap (λ (s : State). s.roll) (found.open_next is))
  counted_roll counts found (Some sources) is =
      inr (record {
        rule = rule;
        lawful = lawful;
        order = order;
        orderly = orderly;
        is = refl;
        counts = counts;
        sources = sources;
        settled =
            record {
              live = found.live;
              rule_n = found.rule_n;
              order_n = found.order_n;
              board = found.board;
              board_is = found.board_is;
              answer = is;
            };
        roll_is = ap (λ (s : State). s.roll) (found.settled_next sources is);
      })

  release_roll : Sound state → RollAfter state rule lawful order orderly
  release_roll sound = by_answer (release_decided state rule order) refl
    where
      by_answer :
          (decided : Result (List Entry) Fault) → release_decided state rule order ≡ decided
          → RollAfter state rule lawful order orderly
      by_answer (Err fault) e =
          inl (ap (λ (d : Result (List Entry) Fault). (outcome state d length (releasing state)).next.roll) e)
      by_answer (Ok wave) e =
          let found = asked state rule order sound counts in
          counted_roll counts found (rule.answer found.board) refl
        where
          counts : (release_of state rule order).answer ≡ Err Setting → ⊥
          counts refused =
              let done = ap (λ (d : Result (List Entry) Fault). (outcome state d length (releasing state)).answer) e in
              let never : ◌≡◌ {A = ℕ} 0 1 = cc in
              omega arith

call-roll :
    {Held Reply : Type 0} (step : Step Held Reply) (at : Moment Held Reply) (call : Call) → Sound at.state
    → ((call_next step at call).state.roll ≡ at.state.roll)
    ⊎ Settling at.state (call_next step at call).state.roll call
call-roll step at (write class order note block) sound =
    inl (roll-kept at.state (write_decided at.state class order note block) (λ _. tt) (accepting at.state)
    (λ _. refl))
call-roll step at (offer block) sound =
    inl (roll-kept at.state (offer_decided at.state block) (λ _. tt) (accepting at.state) (λ _. refl))
call-roll step at (release rule lawful order orderly) sound = release_roll at.state rule lawful order orderly sound
call-roll step at post sound =
    inl (roll-kept at.state (post_decided at.state) (λ entry. (step at.held entry.message.order).0)
    (λ _. posting at.state) (λ _. refl))
call-roll step at (show place) sound =
    inl (roll-kept at.state (show_decided at.state place) (λ entry. entry) (λ _. at.state) (λ _. refl))

pub roll-more :
    {Held Reply : Type 0} (run : Run Held Reply) (calls : List Call) (call : Call)
    → (roll_at run (calls ++ call ∷ []) ≡ roll_at run calls)
    ⊎ Settling (state_at run calls) (roll_at run (calls ++ call ∷ [])) call
roll-more run calls call =
    let next = ap (λ (m : Moment _ _). m.state.roll) (moment_more run calls call) in
    ⊎_elim (λ same. inl (next ∙ same))
    (λ settling. inr (subst (λ (roll : List Entry). Settling (state_at run calls) roll call) (sym next) settling))
    (call-roll run.step (moment run calls) call (sound-at run calls))

-- Waves are numbered from 1, one by one.

last_of :
    (roll : List Entry) (wave : ℕ) (messages : List Message) (message : Message) → On message messages
    → last_wave (roll ++ as_entries wave messages) ≡ wave
last_of roll wave messages message on = last_more roll wave messages (on_some messages message on)

-- a wave that is put on the roll is the next
next_wave-is :
    (state : State) (roll : List Entry) (call : Call) → Sound state → Settling state roll call
    → last_wave roll ≡ suc (last_wave state.roll)
next_wave-is state roll call sound settling =
    let found =
    some-entry state settling.rule settling.order settling.sources sound settling.lawful settling.orderly
    settling.settled in
    ap last_wave settling.roll_is
    ∙ last_of state.roll (suc (last_wave state.roll))
    (wave_of settling.order (suc (last_wave state.roll)) (head (known state) (released state)) settling.sources)
    found.0 found.1

module _ {Held Reply : Type 0} (run : Run Held Reply) where
  -- a call puts no wave on the roll, or one
  pub waves_more :
      (calls : List Call) (call : Call)
      → (roll_at run (calls ++ call ∷ []) ≡ roll_at run calls)
      ⊎ (last_wave (roll_at run (calls ++ call ∷ [])) ≡ suc (last_wave (roll_at run calls)))
  waves_more calls call =
      ⊎_elim (λ same. inl same)
      (λ settling.
      inr (next_wave-is (state_at run calls) (roll_at run (calls ++ call ∷ [])) call (sound-at run calls) settling))
      (roll-more run calls call)

  -- before the first wave nothing is on the roll
  no_waves : (calls : List Call) → last_wave (roll_at run calls) ≡ 0 → roll_at run calls ≡ []
  unfolding after
  no_waves =
      from_end (λ calls. last_wave (roll_at run calls) ≡ 0 → roll_at run calls ≡ []) (λ e. refl)
      (λ calls call below e.
      ⊎_elim (λ same. same ∙ below (sym (ap last_wave same) ∙ e))
      (λ more. absurd (omega (arith, more, e)))
      (waves_more calls call))

  -- the last call that put a wave on the roll, after so many waves
  pub record LastSettled (calls : List Call) (count : ℕ) : Type 0 where
    pub before : List Call
    pub call : Call
    pub later : List Call
    pub there : calls ≡ before ++ call ∷ later
    pub count_was : last_wave (roll_at run before) ≡ count
    pub settling : Settling (state_at run before) (roll_at run calls) call

  pub last_settled : (calls : List Call) (count : ℕ) → last_wave (roll_at run calls) ≡ suc count → LastSettled calls count
  unfolding after
  last_settled =
      from_end (λ calls. (count : ℕ) → last_wave (roll_at run calls) ≡ suc count → LastSettled calls count)
      (λ count e. absurd (omega (arith, e)))
      (λ calls call below count e.
      ⊎_elim (λ same. still calls call count same (below count (sym (ap last_wave same) ∙ e)))
      (λ settling.
      record {
        before = calls;
        call = call;
        later = [];
        there = refl;
        count_was = was calls call count settling e;
        settling = settling;
      })
      (roll-more run calls call))
    where
      still :
          (calls : List Call) (call : Call) (count : ℕ) → roll_at run (calls ++ call ∷ []) ≡ roll_at run calls
          → LastSettled calls count → LastSettled (calls ++ call ∷ []) count
      still calls call count same found =
          record {
            before = found.before;
            call = found.call;
            later = found.later ++ call ∷ [];
            there =
                ap (λ (l : List Call). l ++ call ∷ []) found.there
                ∙ append_assoc found.before (found.call ∷ found.later) (call ∷ []);
            count_was = found.count_was;
            settling =
                subst (λ (roll : List Entry). Settling (state_at run found.before) roll found.call) (sym same)
                found.settling;
          }

      was :
          (calls : List Call) (call : Call) (count : ℕ)
          → Settling (state_at run calls) (roll_at run (calls ++ call ∷ [])) call
          → last_wave (roll_at run (calls ++ call ∷ [])) ≡ suc count → last_wave (roll_at run calls) ≡ count
      was calls call count settling e =
          let next =
          next_wave-is (state_at run calls) (roll_at run (calls ++ call ∷ [])) call (sound-at run calls) settling in
          omega (arith, next, e)

  -- Earlier moments.

  -- a moment with so many waves, whose roll is a beginning of the roll
  pub record Earlier (calls : List Call) (count : ℕ) : Type 0 where
    pub first : List Call
    pub later : List Call
    pub there : calls ≡ first ++ later
    pub count_is : last_wave (roll_at run first) ≡ count
    pub begins : Begins (roll_at run first) (roll_at run calls)

  begins_more : (calls : List Call) (call : Call) → Begins (roll_at run calls) (roll_at run (calls ++ call ∷ []))
  begins_more calls call =
      ⊎_elim (λ same. ([], same ∙ sym (append-nil (roll_at run calls))))
      (λ settling. (wave_from (state_at run calls) settling.order settling.sources, settling.roll_is))
      (roll-more run calls call)

  pub earlier : (calls : List Call) (count : ℕ) → count ≤ last_wave (roll_at run calls) → Earlier calls count
  unfolding after
  earlier =
      from_end (λ calls. (count : ℕ) → count ≤ last_wave (roll_at run calls) → Earlier calls count)
      (λ count few. itself [] count (omega (arith, few)))
      (λ calls call below count few.
      ⊎_elim (λ same. itself (calls ++ call ∷ []) count same)
      (λ less. further calls call count (below count (fewer calls call count few less)))
      (cases_eq count (last_wave (roll_at run (calls ++ call ∷ [])))))
    where
      itself : (calls : List Call) (count : ℕ) → count ≡ last_wave (roll_at run calls) → Earlier calls count
      itself calls count same =
          record {
            first = calls;
            later = [];
            there = sym (append-nil calls);
            count_is = sym same;
            begins = ([], sym (append-nil (roll_at run calls)));
          }

      fewer :
          (calls : List Call) (call : Call) (count : ℕ) → count ≤ last_wave (roll_at run (calls ++ call ∷ []))
          → (count ≡ last_wave (roll_at run (calls ++ call ∷ [])) → ⊥) → count ≤ last_wave (roll_at run calls)
      fewer calls call count few less =
          ⊎_elim (λ same. let now = ap last_wave same in omega (arith, now, few)) (λ more. omega (arith, more, few, less))
          (waves_more calls call)

      further : (calls : List Call) (call : Call) (count : ℕ) → Earlier calls count → Earlier (calls ++ call ∷ []) count
      further calls call count found =
          let more = begins_more calls call in
          record {
            first = found.first;
            later = found.later ++ call ∷ [];
            there =
                ap (λ (l : List Call). l ++ call ∷ []) found.there
                ∙ append_assoc found.first found.later (call ∷ []);
            count_is = found.count_is;
            begins = (
              found.begins.0 ++ more.0,
              more.1 ∙ ap (λ (r : List Entry). r ++ more.0) found.begins.1
                  ∙ append_assoc (roll_at run found.first) found.begins.0 more.0,
            );
          }

-- Two runs of one group.

on_front : (message : Message) (messages more : List Message) → On message messages → On message (messages ++ more)
on_front message [] more on = elim on [ ]
on_front message (first ∷ rest) more (inl e) = inl e
on_front message (first ∷ rest) more (inr on) = inr (on_front message rest more on)

module _ {Held Reply : Type 0} (run : Run Held Reply) where
  -- what is accepted at a moment was accepted among the calls up to it, and among all of the run
  pub heard_at :
      (calls : List Call) (message : Message) → On message (state_at run calls).accepted
      → HasAccepted run calls message
  heard_at calls message on = subst (On message) (sym (accepted-told run calls)) on

  pub heard_later :
      (calls later : List Call) (message : Message) → HasAccepted run calls message
      → HasAccepted run (calls ++ later) message
  heard_later calls later message on =
      subst (On message) (sym (accepted-append run.step (beginning run) calls later))
      (on_front message _ _ on)

  pub heard :
      (calls later : List Call) (message : Message) → run.calls ≡ calls ++ later
      → On message (state_at run calls).accepted → HasAccepted run run.calls message
  heard calls later message there on =
      subst (λ (all : List Call). HasAccepted run all message) (sym there)
      (heard_later calls later message (heard_at calls message on))

  -- a settling release was given its rule and its tie order
  pub given :
      (before : List Call) (call : Call) (later : List Call) (roll : List Entry) → run.calls ≡ before ++ call ∷ later
      → (settling : Settling (state_at run before) roll call) → WasGiven run settling.rule settling.order
  given before call later roll there settling =
      record {
        before = before;
        lawful = settling.lawful;
        orderly = settling.orderly;
        later = later;
        there = there ∙ ap (λ (c : Call). before ++ c ∷ later) settling.is;
        counts = settling.counts;
      }

  pub size_at : (calls : List Call) → (state_at run calls).settings.n ≡ run.settings.n
  size_at calls = ap (λ (s : Settings). s.n) (settings-kept run.step (beginning run) calls)

-- a part of the first calls, in all of the calls
pub further_on :
    (all calls later before : List Call) (call : Call) (between : List Call) → all ≡ calls ++ later
    → calls ≡ before ++ call ∷ between → all ≡ before ++ call ∷ (between ++ later)
further_on all calls later before call between there within =
    there ∙ ap (λ (c : List Call). c ++ later) within ∙ append_assoc before (call ∷ between) later

module _ {Held Reply : Type 0} (run other : Run Held Reply) (group : OneGroup run other) where
  -- what two runs have accepted is alike
  pub alike_at :
      (calls later calls' later' : List Call) → run.calls ≡ calls ++ later → other.calls ≡ calls' ++ later'
      → AlikeIn (state_at run calls).accepted (state_at other calls').accepted
  alike_at calls later calls' later' there there' message message' on on' =
      group.alike message message' (heard run calls later message there on) (heard other calls' later' message' there' on')

  -- from equal rolls two settling releases make equal rolls
  settled_alike :
      (before later before' later' : List Call) (call call' : Call) (roll roll' : List Entry)
      → run.calls ≡ before ++ call ∷ later → other.calls ≡ before' ++ call' ∷ later'
      → Settling (state_at run before) roll call → Settling (state_at other before') roll' call'
      → roll_at run before ≡ roll_at other before' → roll ≡ roll'
  settled_alike before later before' later' call call' roll roll' there there' settling settling' same =
      let ours = given run before call later roll there settling in
      let theirs = given other before' call' later' roll' there' settling' in
      settling.roll_is
      ∙ ap₂ ◌++◌ same
      (same-wave (state_at run before) (state_at other before') settling.rule settling'.rule
      settling.order settling'.order settling.sources settling'.sources
      (sound-at run before) (sound-at other before')
      (size_at run before ∙ group.same_n ∙ sym (size_at other before')) same
      (alike_at before (call ∷ later) before' (call' ∷ later') there there')
      settling.lawful settling'.lawful
      (subst (λ n. SameRule n settling.rule settling'.rule) (sym (size_at run before))
      (group.same_rule settling.rule settling'.rule settling.order settling'.order (inl ours) (inr theirs)))
      settling.orderly settling'.orderly
      (subst (λ n. SameOrder n settling.order settling'.order) (sym (size_at run before))
      (group.same_order settling.rule settling'.rule settling.order settling'.order (inl ours) (inr theirs)))
      settling.settled settling'.settled)
      ∙ sym settling'.roll_is

  -- at moments with equally many waves the rolls are equal
  pub same_rolls :
      (count : ℕ) (calls later calls' later' : List Call) → run.calls ≡ calls ++ later → other.calls ≡ calls' ++ later'
      → last_wave (roll_at run calls) ≡ count → last_wave (roll_at other calls') ≡ count
      → roll_at run calls ≡ roll_at other calls'
  same_rolls zero calls later calls' later' there there' e e' = no_waves run calls e ∙ sym (no_waves other calls' e')
  same_rolls (suc count) calls later calls' later' there there' e e' =
      let last = last_settled run calls count e in
      let last' = last_settled other calls' count e' in
      let all = further_on run.calls calls later last.before last.call last.later there last.there in
      let all' =
      further_on other.calls calls' later' last'.before last'.call last'.later there' last'.there in
      settled_alike last.before (last.later ++ later) last'.before (last'.later ++ later') last.call last'.call
      (roll_at run calls) (roll_at other calls') all all' last.settling last'.settling
      (same_rolls count last.before (last.call ∷ (last.later ++ later))
      last'.before (last'.call ∷ (last'.later ++ later')) all all' last.count_was last'.count_was)

  -- the roll with fewer waves is a beginning of the other
  pub fewer_waves :
      (calls later calls' later' : List Call) → run.calls ≡ calls ++ later → other.calls ≡ calls' ++ later'
      → last_wave (roll_at run calls) ≤ last_wave (roll_at other calls') → Begins (roll_at run calls) (roll_at other calls')
  fewer_waves calls later calls' later' there there' few =
      let found = earlier other calls' (last_wave (roll_at run calls)) few in
      let all =
      there' ∙ ap (λ (c : List Call). c ++ later') found.there ∙ append_assoc found.first found.later later' in
      let same =
      same_rolls (last_wave (roll_at run calls)) calls later found.first (found.later ++ later') there all refl
      found.count_is in
      (found.begins.0, found.begins.1 ∙ ap (λ (r : List Entry). r ++ found.begins.0) (sym same))

-- one group, seen from the other run
pub turned : {Held Reply : Type 0} (run other : Run Held Reply) → OneGroup run other → OneGroup other run
turned run other group =
    record {
      same_n = sym group.same_n;
      same_rule =
          λ rule rule' order order' given-one given-other.
          subst (λ n. SameRule n rule rule') group.same_n
          (group.same_rule rule rule' order order' (swapped given-one) (swapped given-other));
      same_order =
          λ rule rule' order order' given-one given-other.
          subst (λ n. SameOrder n order order') group.same_n
          (group.same_order rule rule' order order' (swapped given-one) (swapped given-other));
      same_step = λ held bytes. sym (group.same_step held bytes);
      same_start = sym group.same_start;
      alike =
          λ message message' on on' station number.
          let same = group.alike message' message on' on (sym station) (sym number) in
          record { after = sym same.after; class = sym same.class; order = sym same.order };
    }
  where
    swapped : {A B : Type 0} → A ⊎ B → B ⊎ A
    swapped (inl a) = inr a
    swapped (inr b) = inl b

-- What show tells of the roll.

-- lists of which each has what the first has, and the second no more
same_entries :
    (entries roll : List Entry) → ((at : ℕ) (entry : Entry) → slice_get entries at ≡ Some entry → slice_get roll at ≡ Some entry)
    → slice_get roll (length entries) ≡ None → entries ≡ roll
same_entries [] [] each none = refl
same_entries [] (first ∷ rest) each none = absurd (let z : ◌≡◌ {A = ℕ} 0 1 = cc in omega arith)
same_entries (entry ∷ entries) [] each none =
    let found = each 0 entry refl in absurd (let z : ◌≡◌ {A = ℕ} 0 1 = cc in omega arith)
same_entries (entry ∷ entries) (first ∷ rest) each none =
    let found = each 0 entry refl in
    let below = same_entries entries rest (λ at. each (suc at)) none in
    cc

-- what a station answers to show, by whether it is shut and what is there
abbrev shown_of : State → Bool → Option Entry → Result Entry Fault
shown_of state shut found =
    (outcome state (cond shut (Err Setting) (shown_entry found)) (λ entry. entry) (λ _. state)).answer

entry-shown :
    (state : State) (found : Option Entry) (entry : Entry) → shown_of state false found ≡ Ok entry → found ≡ Some entry
entry-shown state (Some there) entry e = cc
entry-shown state None entry e = absurd (let z : ◌≡◌ {A = ℕ} 0 1 = cc in omega arith)

none-shown : (state : State) (found : Option Entry) (fault : Fault) → shown_of state false found ≡ Err fault → found ≡ None
none-shown state (Some there) fault e = absurd (let z : ◌≡◌ {A = ℕ} 0 1 = cc in omega arith)
none-shown state None fault e = refl

pub is-roll-told :
    (state : State) (entries : List Entry) → IsRoll state entries → entries ≡ cond (is_shut state) [] state.roll
is-roll-told state entries is = by_test (is_shut state) refl
  where
    answer_is :
        (shut : Bool) → is_shut state ≡ shut → (place : ℕ)
        → (show_of state place).answer ≡ shown_of state shut (entry_at state.roll place)
    answer_is shut e place = ap (λ b. shown_of state b (entry_at state.roll place)) e

    nothing :
        (shown : List Entry)
        → ((before : ℕ) (entry : Entry) → slice_get shown before ≡ Some entry → (show_of state (suc before)).answer ≡ Ok entry)
        → is_shut state ≡ true → shown ≡ []
    nothing [] each e = refl
    nothing (entry ∷ rest) each e =
        let first = each 0 entry refl in
        let refused = answer_is true e 1 in
        absurd (let z : ◌≡◌ {A = ℕ} 0 1 = cc in omega arith)

    by_test : (shut : Bool) → is_shut state ≡ shut → entries ≡ cond shut [] state.roll
    by_test true e = nothing entries is.shown e
    by_test false e =
        same_entries entries state.roll
        (λ at entry found.
        entry-shown state (slice_get state.roll at) entry (sym (answer_is false e (suc at)) ∙ is.shown at entry found))
        (none-shown state (slice_get state.roll (length entries)) is.refused.0
        (sym (answer_is false e (suc (length entries))) ∙ is.refused.1))

pub rolls_in_step : {Held Reply : Type 0} → RollsInStep Held Reply
rolls_in_step run other group calls later calls' later' there there' entries entries' is is' =
    by_test (is_shut (state_at run calls)) (is_shut (state_at other calls'))
    (is-roll-told (state_at run calls) entries is) (is-roll-told (state_at other calls') entries' is')
  where
    by_test :
        (shut shut' : Bool) → entries ≡ cond shut [] (roll_at run calls) → entries' ≡ cond shut' [] (roll_at other calls')
        → Begins entries entries' ⊎ Begins entries' entries
    by_test true shut' e e' = inl (entries', ap (λ (l : List Entry). l ++ entries') (sym e))
    by_test false true e e' = inr (entries, ap (λ (l : List Entry). l ++ entries) (sym e'))
    by_test false false e e' =
        ⊎_elim
        (λ less.
        inl (subst₂ Begins (sym e) (sym e')
        (fewer_waves run other group calls later calls' later' there there' (omega (arith, less)))))
        (λ many.
        inr (subst₂ Begins (sym e') (sym e)
        (fewer_waves other run (turned run other group) calls' later' calls later there' there many)))
        (cases_lt (last_wave (roll_at run calls)) (last_wave (roll_at other calls')))
