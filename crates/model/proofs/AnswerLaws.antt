-- When each answer of taking in a message, of offer, of show and of open comes. Assumes nothing.
use Rattle.std.proofs.Common.{◌≡◌, ℕ, zero, suc, ◌<◌, ◌≤◌, Bool, true, false, cond, not, eqb, ltb, ◌⊎◌, ◌↔◌, List, [], ◌∷◌, length, is_some, Some, None, Ok, Err, Decides, Option, Result, sym, refl, ap, ◌∙◌, subst, inl, inr, ⊎_elim, arith}
use Rattle.std.proofs.lemmas.Grind.{common_steps}
use Rattle.std.specs.List.{slice_get}
use Rattle.std.proofs.lemmas.Option.{slice_get_past}
use Rattle.std.proofs.lemmas.Bool.{and_from, and_parts, both_ways, cases_lt, eqb-false, eqb-true, false≢true, lt-ltb, ltb-true, ne_eqb, not_from_false, not-true}
use Rattle.board.proofs.Places.{some_at, some-from}
use Rattle.wire.specs.Faults.{numbered}
use Rattle.wire.specs.Format.{Contents, check_holds, contents_in, laid_out, read_layout, reading}
use Rattle.wire.specs.Messages.{well_formed}
use Rattle.wire.specs.declared.fault.Fault.{Fault}
use Rattle.wire.specs.declared.fault.Fault.TheVariants.{Length, Check, Layout, Repeat, Clash, Early, Crossed, Full, Setting}
use Rattle.wire.specs.declared.message.Message.{Message}
use Rattle.model.specs.declared.entry.Entry.{Entry}
use Rattle.model.specs.Accepted.{Accepted, crossed, early, is_crossed_by, lacks, some_exceeds}
use Rattle.model.specs.Calls.{for_group, open_answer, offer_of, outcome, show_of, shown_entry, take_carried, take_decided, take_of, taken}
use Rattle.model.specs.Following.{Alike, Follows, alike, count_of, exceeds}
use Rattle.model.specs.Meanings.{Carries, HasNoRoom, IsCrossed, IsLawful, IsNew, LacksSome, OfferAnswers, OpenAnswers, ShowAnswers, TakeAnswers}
use Rattle.model.specs.States.{Settings, State, accepting, entry_at, is_full, is_shut, known, may_open}
use Rattle.model.proofs.MessageFacts.{alike_decides, group_small, no_count-above, well-reads}

-- Early: something that the message follows is not accepted.

none_is : (found : Option Message) → not (is_some found) ≡ true → found ≡ None
none_is = grind (arith, common_steps)

is_none : (found : Option Message) → found ≡ None → not (is_some found) ≡ true
is_none found e = ap (λ o. not (is_some o)) e

-- a station that a well-formed message follows is one of the sixteen
followed-place : (n : ℕ) (m : Message) (place : ℕ) → well_formed n m ≡ true → 0 < count_of m (suc place) → place < 16
followed-place n m place well some_count =
    let small = group_small n m well in
    ⊎_elim (λ below. below)
    (λ past. let none = no_count-above n m (suc place) well (omega arith) in absurd (omega arith))
    (cases_lt place 16)

-- a message that is followed and not accepted
abbrev Lacking : Accepted → Message → Type 0
Lacking accepted m = (station : ℕ) × (number : ℕ) × Follows m station number × (accepted station number ≡ None)

module _ (accepted : Accepted) (n : ℕ) (m : Message) (well : well_formed n m ≡ true) where
  lacking : early accepted m ≡ true → Lacking accepted m
  lacking e =
      let at = some_at (lacks accepted m) 16 e in
      let station = suc at.0 in
      let found = some_at (λ before. not (is_some (accepted station (suc before)))) (count_of m station) at.2 in
      let below = found.1 in
      let number = suc found.0 in
      (station, number, (omega arith, omega arith), none_is (accepted station number) found.2)

  is_early : (station number : ℕ) → Follows m station number → accepted station number ≡ None → early accepted m ≡ true
  is_early zero number follows none = absurd (omega arith)
  is_early (suc place) zero follows none = absurd (omega arith)
  is_early (suc place) (suc before) follows none =
      some-from (lacks accepted m) 16 place (followed-place n m place well (omega arith))
      (some-from (λ k. not (is_some (accepted (suc place) (suc k)))) (count_of m (suc place)) before (omega arith)
      (is_none (accepted (suc place) (suc before)) none))

  pub early_decides :
      Decides (early accepted m)
      ((station : ℕ) × (number : ℕ) × Follows m station number × (accepted station number ≡ None))
  early_decides = (lacking, (λ lack. is_early lack.0 lack.1 lack.2 lack.3))

-- Crossed: the last message of some station that the message follows has a larger count for some station.

-- a larger count for one of the sixteen stations
larger_place :
    (m other : Message) (third : ℕ) → third ≤ 16 → count_of m third < count_of other third → exceeds other m ≡ true
larger_place m other zero few larger = absurd (omega arith)
larger_place m other (suc place) few larger =
    some-from (λ k. ltb (count_of m (suc k)) (count_of other (suc k))) 16 place (omega arith)
    (lt-ltb (count_of m (suc place)) (count_of other (suc place)) larger)

-- the message is crossed by another for a third station
abbrev Crossing : Accepted → Message → Type 0
Crossing accepted m =
    (station : ℕ) × (other : Message) × (third : ℕ) × (third ≤ 16)
    × (0 < count_of m station)
    × (accepted station (count_of m station) ≡ Some other)
    × (count_of m third < count_of other third)

module _ (accepted : Accepted) (n : ℕ) (m : Message) (well : well_formed n m ≡ true) where
  crossing : crossed accepted m ≡ true → Crossing accepted m
  crossing e =
      let at = some_at (is_crossed_by accepted m) 16 e in
      let station = suc at.0 in
      let count = count_of m station in
      let parts = and_parts (not (eqb count 0)) (some_exceeds (accepted station count) m) at.2 in
      by station (eqb-false count 0 (not-true (eqb count 0) parts.0)) (accepted station count) refl parts.1
    where
      by :
          (station : ℕ) → (count_of m station ≡ 0 → ⊥) → (found : Option Message)
          → accepted station (count_of m station) ≡ found → some_exceeds found m ≡ true → Crossing accepted m
      by station counts None has larger = absurd (false≢true larger)
      by station counts (Some other) has larger =
          let at = some_at (λ k. ltb (count_of m (suc k)) (count_of other (suc k))) 16 larger in
          let third = suc at.0 in
          let below = at.1 in
          (station, other, third, omega arith, omega arith, has, ltb-true (count_of m third) (count_of other third) at.2)

  is_crossed :
      (station : ℕ) (other : Message) (third : ℕ) → third ≤ 16 → 0 < count_of m station
      → accepted station (count_of m station) ≡ Some other → count_of m third < count_of other third
      → crossed accepted m ≡ true
  is_crossed zero other third few counts has larger = absurd (omega arith)
  is_crossed (suc place) other third few counts has larger =
      let count = count_of m (suc place) in
      some-from (is_crossed_by accepted m) 16 place (followed-place n m place well counts)
      (and_from (not (eqb count 0)) (some_exceeds (accepted (suc place) count) m)
      (not_from_false (eqb count 0) (ne_eqb count 0 (omega arith)))
      (ap (λ found. some_exceeds found m) has
      ∙ larger_place m other third few larger))

  pub crossed_decides : Decides (crossed accepted m) (Crossing accepted m)
  crossed_decides = (crossing, (λ c. is_crossed c.0 c.1 c.2 c.3 c.4 c.5 c.6))

-- The number of a refusal, 0 where there is none. It tells answers apart.
abbrev pub refusal : {Answer : Type 0} → Result Answer Fault → ℕ
refusal (Ok answer) = 0
refusal (Err fault) = numbered fault

-- an answer that comes, where what it means holds
pub comes : {A P : Type 0} → A → P → A ↔ P
comes answer meaning = ((λ _. meaning), (λ _. answer))

-- an answer that does not come, where what it means does not hold
pub fails :
    {Answer : Type 0} {answer other : Result Answer Fault} {P : Type 0}
    → (refusal answer ≡ refusal other → ⊥) → (P → ⊥) → (answer ≡ other) ↔ P
fails apart void = ((λ same. absurd (apart (ap refusal same))), (λ holds. absurd (void holds)))

-- Taking in a message.

-- what is found is one message, or none
found_none : {X : Type 0} (found : Option X) (other : X) → found ≡ Some other → found ≡ None → ⊥
found_none found other has none = cc

-- a test that decides, once it is known
holds : {P : Type 0} → Decides true P → P
holds decides = decides.0 refl

holds_not : {P : Type 0} → Decides false P → P → ⊥
holds_not decides holding = false≢true (decides.1 holding)

-- the answer of what was decided
abbrev told : State → Result Message Fault → Result (Unit {0}) Fault
told state decided = (outcome state decided (λ _. tt) (accepting state)).answer

module _ (state : State) (message : Message) where
  abbrev found : Option Message
  found = known state message.station message.number

  -- a message is accepted already under its number
  again_answers :
      (other : Message) → found ≡ Some other → (same : Bool) → Decides same (Alike message other)
      → TakeAnswers state message (told state (cond same (Err Repeat) (Err Clash)))
  again_answers = grind (arith, common_steps)

  -- none is
  fresh_answers :
      IsNew state message → (lacks crossing full : Bool) → Decides lacks (LacksSome state message)
      → Decides crossing (IsCrossed state message) → Decides full (HasNoRoom state)
      → TakeAnswers state message
      (told state (cond lacks (Err Early) (cond crossing (Err Crossed) (cond full (Err Full) (Ok message)))))
  fresh_answers new true crossing full l c f = grind (arith, common_steps, fails, found_none, comes, holds)
  fresh_answers new false true full l c f = grind (arith, common_steps, fails, found_none, holds_not, comes, holds)
  fresh_answers new false false true l c f = grind (arith, common_steps, fails, found_none, holds_not, comes, holds)
  fresh_answers new false false false l c f = grind (arith, common_steps, fails, found_none, holds_not, comes)

  room_decides : Decides (is_full state) (HasNoRoom state)
  room_decides = grind (arith, common_steps)

  taken_answers :
      Decides (early (known state) message) (LacksSome state message)
      → Decides (crossed (known state) message) (IsCrossed state message)
      → (other : Option Message) → found ≡ other → TakeAnswers state message (told state (taken state message other))
  taken_answers l c (Some other) has = again_answers other has (alike message other) (alike_decides message other)
  taken_answers l c None new =
      fresh_answers new (early (known state) message) (crossed (known state) message) (is_full state) l c room_decides

  pub take_answers :
      well_formed state.settings.n message ≡ true → TakeAnswers state message (take_of state message).answer
  take_answers well =
      taken_answers (early_decides (known state) state.settings.n message well)
      (crossed_decides (known state) state.settings.n message well) found refl

-- Offer.

-- what taking in refuses with, and what reading does, by their numbers

abbrev OfTaking : ℕ → Type 0
OfTaking number = (number ≤ 8) × ((number ≡ 0) ⊎ (4 ≤ number))

module _ (state : State) (message : Message) where
  taken_number : (other : Option Message) → OfTaking (refusal (told state (taken state message other)))
  taken_number = grind (arith, common_steps)

reading-number : (block : List ℕ) → refusal (reading block) ≤ 3
unfolding reading read_layout
reading-number block = by (eqb (length block) 512) (check_holds block) (laid_out block)
  where
    by :
        (long checks fits : Bool)
        → refusal
        (cond long (cond checks (cond fits (Ok (contents_in block)) (Err Layout)) (Err Check)) (Err Length)) ≤ 3
    by true true true = omega arith
    by true true false = omega arith
    by true false fits = omega arith
    by false checks fits = omega arith

-- an answer that does not come
never :
    {Answer : Type 0} {answer other : Result Answer Fault} {P : Type 0}
    → (refusal answer ≡ refusal other → ⊥) → answer ≡ other → P
never apart same = absurd (apart (ap refusal same))

-- a block reads well, or is refused
read_one :
    (read : Result Contents Fault) (contents : Contents) (fault : Fault) → read ≡ Ok contents → read ≡ Err fault → ⊥
read_one read contents fault well ill = cc

module _ (state : State) (block : List ℕ) where
  shut_answers : is_shut state ≡ true → OfferAnswers state block (Err Setting)
  shut_answers shut = grind (arith, common_steps)

  -- the block is refused with some fault: so is the call
  refused_as :
      is_shut state ≡ false → (fault other : Fault) → reading block ≡ Err fault
      → (◌≡◌ {A = Result (Unit {0}) Fault} (Err fault) (Err other))
      ↔ ((is_shut state ≡ false) × (reading block ≡ Err other))
  refused_as live fault other ill =
      ((λ same. (live, (cc))), (λ p. let also : reading block ≡ Err other = p.1 in cc))

  refused_answers :
      is_shut state ≡ false → (fault : Fault) → reading block ≡ Err fault → numbered fault ≤ 3
      → OfferAnswers state block (Err fault)
  refused_answers live fault ill low =
      record {
        setting = fails (omega arith) (λ shut. both_ways (is_shut state) live shut);
        length = refused_as live fault Length ill;
        check = refused_as live fault Check ill;
        layout = (
          (λ same. (live, inl ((refused_as live fault Layout ill).0 same).1)),
          (λ p. ⊎_elim (λ also. (refused_as live fault Layout ill).1 (live, also))
              (λ another. absurd (read_one (reading block) another.0 fault another.1 ill)) p.1),
        );
        carried = λ message carries. absurd (read_one (reading block) carries.contents fault carries.reads ill);
        repeat = never (omega arith);
        clash = never (omega arith);
        early = never (omega arith);
        crossed = never (omega arith);
        full = never (omega arith);
        done = λ same. cc;
      }

  module _ (contents : Contents) (live : is_shut state ≡ false) (read : reading block ≡ Ok contents) where
    -- it is the only contents that the block has
    contents_one : (other : Contents) → reading block ≡ Ok other → other ≡ contents
    contents_one other also = cc

    -- it reads well and is for another n
    apart_answers : (contents.n ≡ state.settings.n → ⊥) → OfferAnswers state block (Err Layout)
    apart_answers apart =
        record {
          setting = fails (omega arith) (λ shut. both_ways (is_shut state) live shut);
          length = fails (omega arith) (λ p. read_one (reading block) contents Length read p.1);
          check = fails (omega arith) (λ p. read_one (reading block) contents Check read p.1);
          layout = comes refl (live, inr (contents, read, apart));
          carried =
              λ message carries.
              let one = contents_one carries.contents carries.reads in
              absurd (apart (sym (ap (λ c. c.n) one) ∙ carries.group));
          repeat = never (omega arith);
          clash = never (omega arith);
          early = never (omega arith);
          crossed = never (omega arith);
          full = never (omega arith);
          done = never (omega arith);
        }

    -- it carries a message: the call answers as taking it in does
    carried_answers :
        (answer : Result (Unit {0}) Fault) → contents.n ≡ state.settings.n
        → TakeAnswers state contents.message answer → OfTaking (refusal answer) → OfferAnswers state block answer
    carried_answers answer group take number =
        record {
          setting = fails (omega arith) (λ shut. both_ways (is_shut state) live shut);
          length = fails (omega arith) (λ p. read_one (reading block) contents Length read p.1);
          check = fails (omega arith) (λ p. read_one (reading block) contents Check read p.1);
          layout =
              fails (omega arith)
              (λ p. ⊎_elim (λ ill. read_one (reading block) contents Layout read ill)
              (λ another. another.2 (ap (λ c. c.n) (contents_one another.0 another.1) ∙ group)) p.1);
          carried =
              λ message carries.
              let one = contents_one carries.contents carries.reads in
              subst (λ m. TakeAnswers state m answer) (sym (ap (λ c. c.message) one) ∙ carries.carried) take;
          repeat = λ same. (contents.message, carries, take.repeat.0 same);
          clash = λ same. (contents.message, carries, take.clash.0 same);
          early = λ same. (contents.message, carries, (take.early.0 same).1);
          crossed = λ same. (contents.message, carries, (take.crossed.0 same).2);
          full = λ same. (contents.message, carries, (take.full.0 same).3);
          done = λ same. (contents.message, carries, (take.done.0 same).0);
        }
      where
        carries : Carries state block contents.message
        carries = record { contents = contents; live = live; reads = read; group = group; carried = refl }

    read_answers :
        (group : Bool) → eqb contents.n state.settings.n ≡ group
        → OfferAnswers state block (told state (take_carried state (cond group (Ok contents.message) (Err Layout))))
    read_answers true same =
        let group = eqb-true contents.n state.settings.n same in
        carried_answers (told state (take_decided state contents.message)) group
        (take_answers state contents.message
        (subst (λ n. well_formed n contents.message ≡ true) group (well-reads block contents read)))
        (taken_number state contents.message (known state contents.message.station contents.message.number))
    read_answers false other = apart_answers (eqb-false contents.n state.settings.n other)

  offered_answers :
      (shut : Bool) → is_shut state ≡ shut
      → (read : Result Contents Fault) → reading block ≡ read
      → OfferAnswers state block (told state (take_carried state (cond shut (Err Setting) (for_group state read))))
  offered_answers true shut read is = shut_answers shut
  offered_answers false live (Err fault) ill =
      let number = reading-number block in
      let same = ap refusal ill in
      refused_answers live fault ill (omega arith)
  offered_answers false live (Ok contents) read =
      read_answers contents live read (eqb contents.n state.settings.n) refl

  pub offer_answers : OfferAnswers state block (offer_of state block).answer
  offer_answers = offered_answers (is_shut state) refl (reading block) refl

-- Show.

module _ (state : State) where
  abbrev shown_answer : Bool → Option Entry → Result Entry Fault
  shown_answer shut found =
      (outcome state (cond shut (Err Setting) (shown_entry found)) (λ entry. entry) (λ _. state)).answer

  -- a place that has no entry
  beyond_none : (place : ℕ) → (place ≡ 0) ⊎ (length state.roll < place) → entry_at state.roll place ≡ None
  beyond_none = grind (arith, common_steps, slice_get_past)

  none_beyond : (place : ℕ) → entry_at state.roll place ≡ None → (place ≡ 0) ⊎ (length state.roll < place)
  none_beyond zero none = inl refl
  none_beyond (suc before) none =
      ⊎_elim (λ inside. absurd (there state.roll before inside none)) (λ past. inr (omega arith))
      (cases_lt before (length state.roll))
    where
      there : (entries : List Entry) (i : ℕ) → i < length entries → slice_get entries i ≡ None → ⊥
      there [] i inside nothing = omega arith
      there (entry ∷ entries) zero inside nothing = found_none (Some entry) entry refl nothing
      there (entry ∷ entries) (suc i) inside nothing = there entries i (omega arith) nothing

  showing_answers :
      (place : ℕ) (shut : Bool) → is_shut state ≡ shut → (found : Option Entry) → entry_at state.roll place ≡ found
      → ShowAnswers state place (shown_answer shut found)
  showing_answers = grind (arith, common_steps, comes, fails, both_ways, none_beyond, found_none, beyond_none)

  pub show_answers : (place : ℕ) → ShowAnswers state place (show_of state place).answer
  show_answers place = showing_answers place (is_shut state) refl (entry_at state.roll place) refl

-- Open.

lawful_decides : (settings : Settings) → Decides (may_open settings) (IsLawful settings)
lawful_decides settings = grind (arith, common_steps)

opening_answers :
    (settings : Settings) (lawful : Bool) → Decides lawful (IsLawful settings)
    → OpenAnswers settings (cond lawful (Ok tt) (Err Setting))
opening_answers = grind (arith, common_steps)

pub open_answers : (settings : Settings) → OpenAnswers settings (open_answer settings)
open_answers settings = opening_answers settings (may_open settings) (lawful_decides settings)
