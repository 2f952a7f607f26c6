-- What holds at every moment of every run, and what one call can do. Assumes nothing.
use Rattle.std.proofs.Common.{◌≡◌, ℕ, suc, Bool, true, false, cond, ◌&&◌, eqb, leb, List, [], ◌∷◌, ◌++◌, length, Some, None, Ok, Err, Option, Result, sym, refl, ap, ◌∙◌, subst}
use Rattle.std.proofs.lemmas.List.{append_assoc, append-nil}
use Rattle.std.proofs.lemmas.Bool.{and_parts, eqb-true, leb-false, leb-true}
use Rattle.board.specs.Rules.{RuleMeaning}
use Rattle.board.specs.Rules as rules
use Rattle.board.specs.declared.board.Board.{Board}
use Rattle.ties.specs.Ties.{TieMeaning}
use Rattle.ties.specs.Ties as ties
use Rattle.wire.specs.Format.{Contents, reading}
use Rattle.wire.specs.Messages.{well_formed}
use Rattle.wire.specs.Words.{all_within}
use Rattle.wire.specs.declared.fault.Fault.{Fault}
use Rattle.wire.specs.declared.fault.Fault.TheVariants.{Clash, Crossed, Early, Full, Layout, NothingReady, NothingToPost, Repeat, Setting}
use Rattle.wire.specs.declared.message.Message.{Message}
use Rattle.model.specs.declared.entry.Entry.{Entry}
use Rattle.model.specs.Accepted.{crossed, early}
use Rattle.model.specs.Calls.{carried_message, for_group, next_message, offer_decided, outcome, post_decided, release_decided, release_of, settled_wave, show_decided, shown_board, take_carried, take_decided, taken, to_post, wave_from, write_decided}
use Rattle.model.specs.Following.{alike}
use Rattle.model.specs.Heads.{board_at}
use Rattle.model.specs.Sound.{Sound}
use Rattle.model.specs.States.{State, accepting, entry_at, is_full, is_shut, known, posting, released, releasing}
use Rattle.model.proofs.BoardLaws.{boards_are_there}
use Rattle.model.proofs.Decided.{carried-is, never-taken, passed}
use Rattle.model.proofs.Keeping.{sound-accepting, sound-opened}
use Rattle.model.proofs.Released.{sound_releasing}
use Rattle.model.proofs.Written.{next_fits, opened-live, write-parts}
use Rattle.runs.specs.Runs.{Call, Moment, Run, Step, accepted_by, accepted_in, after, beginning, call_next, carried, if_done, state_at, write, offer, release, post, show}

-- One more list of calls.

pub after-append :
    {Held Reply : Type 0} (step : Step Held Reply) (at : Moment Held Reply) (calls more : List Call)
    → after step at (calls ++ more) ≡ after step (after step at calls) more
unfolding after
after-append step at [] more = refl
after-append step at (call ∷ calls) more = after-append step (call_next step at call) calls more

pub accepted-append :
    {Held Reply : Type 0} (step : Step Held Reply) (at : Moment Held Reply) (calls more : List Call)
    → accepted_in step at (calls ++ more) ≡ accepted_in step at calls ++ accepted_in step (after step at calls) more
unfolding after accepted_in
accepted-append step at [] more = refl
accepted-append step at (call ∷ calls) more =
    let now = accepted_by at.state call in
    ap (λ messages. now ++ messages) (accepted-append step (call_next step at call) calls more)
    ∙ sym (append_assoc now (accepted_in step (call_next step at call) calls) _)

-- The settings stay.

outcome-settings :
    {Decided Answer : Type 0} (state : State) (decided : Result Decided Fault) (tell : Decided → Answer)
    (leave : Decided → State) → ((found : Decided) → (leave found).settings ≡ state.settings)
    → (outcome state decided tell leave).next.settings ≡ state.settings
outcome-settings state (Ok found) tell leave each = each found
outcome-settings state (Err fault) tell leave each = refl

settings-next :
    {Held Reply : Type 0} (step : Step Held Reply) (at : Moment Held Reply) (call : Call)
    → (call_next step at call).state.settings ≡ at.state.settings
settings-next step at (write class order note block) =
    outcome-settings at.state (write_decided at.state class order note block) (λ _. tt) (accepting at.state)
    (λ _. refl)
settings-next step at (offer block) =
    outcome-settings at.state (offer_decided at.state block) (λ _. tt) (accepting at.state) (λ _. refl)
settings-next step at (release rule lawful order orderly) =
    outcome-settings at.state (release_decided at.state rule order) length (releasing at.state) (λ _. refl)
settings-next step at post =
    outcome-settings at.state (post_decided at.state) (λ entry. (step at.held entry.message.order).0)
    (λ _. posting at.state) (λ _. refl)
settings-next step at (show place) =
    outcome-settings at.state (show_decided at.state place) (λ entry. entry) (λ _. at.state) (λ _. refl)

pub settings-kept :
    {Held Reply : Type 0} (step : Step Held Reply) (at : Moment Held Reply) (calls : List Call)
    → (after step at calls).state.settings ≡ at.state.settings
unfolding after
settings-kept step at [] = refl
settings-kept step at (call ∷ calls) = settings-kept step (call_next step at call) calls ∙ settings-next step at call

-- What a release found that put a wave on the roll.
pub record Settled (state : State) (rule : RuleMeaning) (order : TieMeaning) (sources : ℕ) : Type 0 where
  pub live : is_shut state ≡ false
  pub rule_n : rule.n ≡ state.settings.n
  pub order_n : order.n ≡ state.settings.n
  pub board : Board
  pub board_is : board_at state.settings.n (known state) (released state) ≡ Ok board
  pub answer : rule.answer board ≡ Some sources

-- What one call can do to the state: nothing, accept one message, put one wave on the roll, post one entry.
pub data Move (state next : State) : Type 0 where
  stays : next ≡ state → Move state next
  accepts :
      (message : Message) → next ≡ accepting state message → is_shut state ≡ false
      → well_formed state.settings.n message ≡ true
      → known state message.station message.number ≡ None → early (known state) message ≡ false
      → crossed (known state) message ≡ false → Move state next
  settles :
      (rule : RuleMeaning) → rules.Lawful rule → (order : TieMeaning) → ties.Lawful order → (sources : ℕ)
      → Settled state rule order sources → next ≡ releasing state (wave_from state order sources) → Move state next
  carries_out : (entry : Entry) → entry_at state.roll (suc state.posted) ≡ Some entry → next ≡ posting state → Move state next

-- what a call leaves and answers that decides on a message

abbrev left_by : State → Result Message Fault → State
left_by state decided = (outcome {Answer = Unit {0}} state decided (λ _. tt) (accepting state)).next

abbrev told-by : State → Result Message Fault → Result (Unit {0}) Fault
told-by state decided = (outcome state decided (λ _. tt) (accepting state)).answer

-- A write.

write_moves :
    (state : State) (class : ℕ) (order note block : List ℕ) (decided : Result Message Fault)
    → write_decided state class order note block ≡ decided → Sound state
    → Move state (left_by state decided)
write_moves state class order note block (Err fault) e sound = stays refl
write_moves state class order note block (Ok message) e sound =
    let parts = write-parts state class order note block message e in
    let may = and_parts (leb class 3) (leb (length note) 64 && all_within 32 126 note) parts.may in
    let fit =
    next_fits state class order sound parts.live (leb-true class 3 may.0)
    (leb-false state.settings.table (length state.accepted) parts.room) in
    accepts message refl parts.live
    (ap (well_formed state.settings.n) parts.is ∙ fit.well)
    (ap (λ (m : Message). known state m.station m.number) parts.is ∙ fit.fresh)
    (ap (early (known state)) parts.is ∙ fit.timely)
    (ap (crossed (known state)) parts.is ∙ fit.straight)

-- An offer.

-- what is taken in is the message itself
pub taken-itself :
    (state : State) (message result : Message) → take_decided state message ≡ Ok result → result ≡ message
taken-itself state message result e = found (known state message.station message.number) e
  where
    again_never : (same : Bool) → cond same (Err Repeat) (Err Clash) ≡ Ok result → ⊥
    again_never true e = never-taken Repeat result e
    again_never false e = never-taken Clash result e

    fresh_is :
        (a b c : Bool) → cond a (Err Early) (cond b (Err Crossed) (cond c (Err Full) (Ok message))) ≡ Ok result
        → result ≡ message
    fresh_is true b c e = absurd (never-taken Early result e)
    fresh_is false true c e = absurd (never-taken Crossed result e)
    fresh_is false false true e = absurd (never-taken Full result e)
    fresh_is false false false e = cc

    found : (o : Option Message) → taken state message o ≡ Ok result → result ≡ message
    found (Some other) e = absurd (again_never (alike message other) e)
    found None e = fresh_is (early (known state) message) (crossed (known state) message) (is_full state) e

-- what is offered and taken in is what the block carries
offered :
    (state : State) (read : Result Message Fault) (message : Message) → take_carried state read ≡ Ok message
    → (read ≡ Ok message) × (take_decided state message ≡ Ok message)
offered state (Ok carried-one) message e =
    let same = taken-itself state carried-one message e in
    (ap (λ (m : Message). Ok m) (sym same), ap (take_decided state) same ∙ e)
offered state (Err fault) message e = absurd (never-taken fault message e)

offer_moves :
    (state : State) (block : List ℕ) (decided : Result Message Fault) → offer_decided state block ≡ decided
    → Move state (left_by state decided)
offer_moves state block (Err fault) e = stays refl
offer_moves state block (Ok message) e =
    let parts = offered state (carried_message state block) message e in
    let from = carried-is state block message parts.0 in
    let pass = passed state message message parts.1 in
    accepts message refl from.live from.group pass.fresh pass.timely pass.straight

-- A release.

-- the rule and the tie order are for the station's n
abbrev same_n : State → RuleMeaning → TieMeaning → Bool
same_n state rule order = eqb rule.n state.settings.n && eqb order.n state.settings.n

both_n :
    (state : State) (rule : RuleMeaning) (order : TieMeaning) → same_n state rule order ≡ true
    → (rule.n ≡ state.settings.n) × (order.n ≡ state.settings.n)
both_n state rule order e =
    let both = and_parts (eqb rule.n state.settings.n) (eqb order.n state.settings.n) e in
    (eqb-true rule.n state.settings.n both.0, eqb-true order.n state.settings.n both.1)

-- what a release that puts a wave on the roll found
settled_parts :
    (state : State) (rule : RuleMeaning) (order : TieMeaning) (wave : List Entry)
    → release_decided state rule order ≡ Ok wave
    → (sources : ℕ) × Settled state rule order sources × (wave ≡ wave_from state order sources)
settled_parts state rule order wave e =
    tested (is_shut state) (same_n state rule order) (board_at state.settings.n (known state) (released state))
    refl refl refl e
  where
    answered :
        is_shut state ≡ false → same_n state rule order ≡ true → (board : Board)
        → board_at state.settings.n (known state) (released state) ≡ Ok board
        → (answer : Option ℕ) → rule.answer board ≡ answer → settled_wave state order answer ≡ Ok wave
        → (sources : ℕ) × Settled state rule order sources × (wave ≡ wave_from state order sources)
    answered live same board board_is None answer e = absurd (never-taken NothingReady wave e)
    answered live same board board_is (Some sources) answer e =
        let both = both_n state rule order same in (
          sources,
          record {
            live = live;
            rule_n = both.0;
            order_n = both.1;
            board = board;
            board_is = board_is;
            answer = answer;
          },
          cc,
        )

    tested :
        (shut same : Bool) (shown : Result Board Fault) → is_shut state ≡ shut → same_n state rule order ≡ same
        → board_at state.settings.n (known state) (released state) ≡ shown
        → cond shut (Err Setting) (cond same (shown_board state rule order shown) (Err Setting)) ≡ Ok wave
        → (sources : ℕ) × Settled state rule order sources × (wave ≡ wave_from state order sources)
    tested true same shown live n_is board_is e = absurd (never-taken Setting wave e)
    tested false false shown live n_is board_is e = absurd (never-taken Setting wave e)
    tested false true (Err fault) live n_is board_is e = absurd (never-taken fault wave e)
    tested false true (Ok board) live n_is board_is e = answered live n_is board board_is (rule.answer board) refl e

release_moves :
    (state : State) (rule : RuleMeaning) (order : TieMeaning) (decided : Result (List Entry) Fault)
    → release_decided state rule order ≡ decided → rules.Lawful rule → ties.Lawful order
    → Move state (outcome state decided length (releasing state)).next
release_moves state rule order (Err fault) e lawful orderly = stays refl
release_moves state rule order (Ok wave) e lawful orderly =
    let parts = settled_parts state rule order wave e in
    settles rule lawful order orderly parts.0 parts.1 (ap (releasing state) parts.2)

-- A post.

post-entry :
    (state : State) (entry : Entry) → post_decided state ≡ Ok entry
    → entry_at state.roll (suc state.posted) ≡ Some entry
post-entry state entry e = tested (is_shut state) (entry_at state.roll (suc state.posted)) e
  where
    tested :
        (shut : Bool) (found : Option Entry) → cond shut (Err Setting) (to_post found) ≡ Ok entry
        → found ≡ Some entry
    tested true found e = absurd (never-taken Setting entry e)
    tested false (Some other) e = cc
    tested false None e = absurd (never-taken NothingToPost entry e)

post_moves :
    {Reply : Type 0} (state : State) (tell : Entry → Reply) (decided : Result Entry Fault)
    → post_decided state ≡ decided → Move state (outcome state decided tell (λ _. posting state)).next
post_moves state tell (Err fault) e = stays refl
post_moves state tell (Ok entry) e = carries_out entry (post-entry state entry e) refl

show-stays :
    (state : State) (decided : Result Entry Fault)
    → Move state (outcome state decided (λ entry. entry) (λ _. state)).next
show-stays state (Err fault) = stays refl
show-stays state (Ok entry) = stays refl

pub move_of :
    {Held Reply : Type 0} (step : Step Held Reply) (at : Moment Held Reply) (call : Call) → Sound at.state
    → Move at.state (call_next step at call).state
move_of step at (write class order note block) sound =
    write_moves at.state class order note block (write_decided at.state class order note block) refl sound
move_of step at (offer block) sound = offer_moves at.state block (offer_decided at.state block) refl
move_of step at (release rule lawful order orderly) sound =
    release_moves at.state rule order (release_decided at.state rule order) refl lawful orderly
move_of step at post sound =
    post_moves at.state (λ entry. (step at.held entry.message.order).0) (post_decided at.state) refl
move_of step at (show place) sound = show-stays at.state (show_decided at.state place)

-- Every moment is sound.

sound_moved : (state next : State) → Sound state → Move state next → Sound next
sound_moved state next sound (stays e) = subst Sound (sym e) sound
sound_moved state next sound (accepts message e live well fresh timely straight) =
    subst Sound (sym e) (sound-accepting state message sound well fresh timely straight)
sound_moved state next sound (settles rule lawful order orderly sources settled e) =
    subst Sound (sym e)
    (sound_releasing state rule order sources settled.board sound lawful orderly
    (opened-live state settled.live).group settled.order_n settled.board_is settled.answer)
sound_moved state next sound (carries_out entry found e) =
    subst Sound (sym e) (record { kept = sound.kept; begun = sound.begun; waves = sound.waves })

pub sound-kept :
    {Held Reply : Type 0} (step : Step Held Reply) (at : Moment Held Reply) (calls : List Call)
    → Sound at.state → Sound (after step at calls).state
unfolding after
sound-kept step at [] sound = sound
sound-kept step at (call ∷ calls) sound =
    sound-kept step (call_next step at call) calls
    (sound_moved at.state (call_next step at call).state sound (move_of step at call sound))

pub sound-at : {Held Reply : Type 0} (run : Run Held Reply) (calls : List Call) → Sound (state_at run calls)
sound-at run calls = sound-kept run.step (beginning run) calls (sound-opened run.settings)

-- A release that is not answered 12 is answered 9, on an open board, or settles.
pub record Asked (state : State) (rule : RuleMeaning) (order : TieMeaning) : Type 0 where
  pub live : is_shut state ≡ false
  pub rule_n : rule.n ≡ state.settings.n
  pub order_n : order.n ≡ state.settings.n
  pub board : Board
  pub board_is : board_at state.settings.n (known state) (released state) ≡ Ok board
  -- the state that it leaves and what it answers
  pub open_next : rule.answer board ≡ None → (release_of state rule order).next ≡ state
  pub open_answer : rule.answer board ≡ None → (release_of state rule order).answer ≡ Err NothingReady
  pub settled_next : (sources : ℕ) → rule.answer board ≡ Some sources → (release_of state rule order).next ≡ releasing state (wave_from state order sources)
  pub settled_answer :
      (sources : ℕ) → rule.answer board ≡ Some sources → (release_of state rule order).answer ≡ Ok (length (wave_from state order sources))

-- what a release leaves and answers, by what was decided

abbrev next_of : State → Result (List Entry) Fault → State
next_of state decided = (outcome state decided length (releasing state)).next

abbrev answer_of : State → Result (List Entry) Fault → Result ℕ Fault
answer_of state decided = (outcome state decided length (releasing state)).answer

-- what a release decides on a board, once it has passed the settings
released-by :
    (state : State) (rule : RuleMeaning) (order : TieMeaning) (board : Board) → is_shut state ≡ false
    → same_n state rule order ≡ true → board_at state.settings.n (known state) (released state) ≡ Ok board
    → release_decided state rule order ≡ settled_wave state order (rule.answer board)
released-by state rule order board live same board_is =
    let rest = shown_board state rule order (board_at state.settings.n (known state) (released state)) in
    ap (λ shut. cond shut (Err Setting) (cond (same_n state rule order) rest (Err Setting))) live
    ∙ ap (λ both. cond both rest (Err Setting)) same
    ∙ ap (shown_board state rule order) board_is

pub asked :
    (state : State) (rule : RuleMeaning) (order : TieMeaning) → Sound state
    → ((release_of state rule order).answer ≡ Err Setting → ⊥) → Asked state rule order
asked state rule order sound counts = tested (is_shut state) (same_n state rule order) refl refl
  where
    rest : Result (List Entry) Fault
    rest = shown_board state rule order (board_at state.settings.n (known state) (released state))

    tests : Bool → Result ℕ Fault
    tests shut = answer_of state (cond shut (Err Setting) (cond (same_n state rule order) rest (Err Setting)))

    live_asked : is_shut state ≡ false → same_n state rule order ≡ true → Asked state rule order
    live_asked live same =
        let both = both_n state rule order same in
        let group = (opened-live state live).group in
        let there = boards_are_there state.settings.n (known state) (released state) group sound.kept.orderly in
        let is = released-by state rule order there.0 live same there.1 in
        record {
          live = live;
          rule_n = both.0;
          order_n = both.1;
          board = there.0;
          board_is = there.1;
          open_next = λ none. ap (next_of state) (is ∙ ap (settled_wave state order) none);
          open_answer = λ none. ap (answer_of state) (is ∙ ap (settled_wave state order) none);
          settled_next = λ sources some. ap (next_of state) (is ∙ ap (settled_wave state order) some);
          settled_answer = λ sources some. ap (answer_of state) (is ∙ ap (settled_wave state order) some);
        }

    tested : (shut same : Bool) → is_shut state ≡ shut → same_n state rule order ≡ same → Asked state rule order
    tested true same live n_is = absurd (counts (ap tests live))
    tested false false live n_is =
        absurd (counts (ap tests live ∙ ap (λ both. answer_of state (cond both rest (Err Setting))) n_is))
    tested false true live n_is = live_asked live n_is

-- The accepted messages.

-- what a block carries that is taken in
carried-there :
    (state : State) (block : List ℕ) (message : Message) → carried_message state block ≡ Ok message
    → carried (reading block) ≡ message ∷ []
carried-there state block message e = tested (is_shut state) (reading block) e
  where
    tested :
        (shut : Bool) (read : Result Contents Fault) → cond shut (Err Setting) (for_group state read) ≡ Ok message
        → carried read ≡ message ∷ []
    tested true read e = absurd (never-taken Setting message e)
    tested false (Err fault) e = absurd (never-taken fault message e)
    tested false (Ok contents) e = grouped (eqb contents.n state.settings.n) e
      where
        grouped :
            (same : Bool) → cond same (Ok contents.message) (Err Layout) ≡ Ok message
            → contents.message ∷ [] ≡ message ∷ []
        grouped true e = cc
        grouped false e = absurd (never-taken Layout message e)

-- a call that decides on a message accepts it, and one that is refused nothing
accepted-left :
    (state : State) (messages : List Message) (decided : Result Message Fault)
    → ((message : Message) → decided ≡ Ok message → messages ≡ message ∷ [])
    → (left_by state decided).accepted ≡ state.accepted ++ if_done (told-by state decided) messages
accepted-left state messages (Ok message) each = ap (λ more. state.accepted ++ more) (sym (each message refl))
accepted-left state messages (Err fault) each = sym (append-nil state.accepted)

outcome-accepted :
    {Decided Answer : Type 0} (state : State) (decided : Result Decided Fault) (tell : Decided → Answer)
    (leave : Decided → State) → ((found : Decided) → (leave found).accepted ≡ state.accepted)
    → (outcome state decided tell leave).next.accepted ≡ state.accepted ++ []
outcome-accepted state (Ok found) tell leave each = each found ∙ sym (append-nil state.accepted)
outcome-accepted state (Err fault) tell leave each = sym (append-nil state.accepted)

accepted-next :
    {Held Reply : Type 0} (step : Step Held Reply) (at : Moment Held Reply) (call : Call)
    → (call_next step at call).state.accepted ≡ at.state.accepted ++ accepted_by at.state call
accepted-next step at (write class order note block) =
    accepted-left at.state (next_message at.state class order ∷ [])
    (write_decided at.state class order note block)
    (λ message e.
    ap (λ (m : Message). m ∷ []) (sym (write-parts at.state class order note block message e).is))
accepted-next step at (offer block) =
    accepted-left at.state (carried (reading block)) (offer_decided at.state block)
    (λ message e.
    carried-there at.state block message (offered at.state (carried_message at.state block) message e).0)
accepted-next step at (release rule lawful order orderly) =
    outcome-accepted at.state (release_decided at.state rule order) length (releasing at.state) (λ _. refl)
accepted-next step at post =
    outcome-accepted at.state (post_decided at.state) (λ entry. (step at.held entry.message.order).0)
    (λ _. posting at.state) (λ _. refl)
accepted-next step at (show place) =
    outcome-accepted at.state (show_decided at.state place) (λ entry. entry) (λ _. at.state) (λ _. refl)

pub accepted-after :
    {Held Reply : Type 0} (step : Step Held Reply) (at : Moment Held Reply) (calls : List Call)
    → (after step at calls).state.accepted ≡ at.state.accepted ++ accepted_in step at calls
unfolding after accepted_in
accepted-after step at [] = sym (append-nil at.state.accepted)
accepted-after step at (call ∷ calls) =
    let next = call_next step at call in
    accepted-after step next calls
    ∙ ap (λ before. before ++ accepted_in step next calls) (accepted-next step at call)
    ∙ append_assoc at.state.accepted (accepted_by at.state call) (accepted_in step next calls)

-- the accepted messages of a run are those of its state
pub accepted-told :
    {Held Reply : Type 0} (run : Run Held Reply) (calls : List Call)
    → accepted_in run.step (beginning run) calls ≡ (state_at run calls).accepted
accepted-told run calls = sym (accepted-after run.step (beginning run) calls)
