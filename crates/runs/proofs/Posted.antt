-- Posts carry out the roll in order: what the book holds and has replied is told by the entries that are posted.
-- Assumes nothing.
use Rattle.std.proofs.Common.{◌≡◌, ℕ, zero, suc, ◌+◌, ◌≤◌, Bool, true, false, cond, ◌⊎◌, List, [], ◌∷◌, ◌++◌, map, length, take, Some, None, Ok, Err, Option, Result, sym, refl, ap, ◌∙◌, ap₂, inl, inr, arith}
use mathlib.Core.Path.{fun_ext}
use Rattle.std.proofs.lemmas.List.{append_assoc, append-nil, length-append, length-map, length-take-le, map_push, take-append-le}
use Rattle.std.specs.List.{slice_get}
use Rattle.books.specs.Books.{held_after, replies}
use Rattle.wire.specs.declared.fault.Fault.{Fault}
use Rattle.wire.specs.declared.fault.Fault.TheVariants.{NoSuchPlace, Setting}
use Rattle.wire.specs.declared.message.Message.{Message}
use Rattle.model.specs.declared.entry.Entry.{Entry}
use Rattle.model.specs.Calls.{held_left, offer_decided, outcome, post_decided, release_decided, show_decided, show_of, shown_entry, to_post, write_decided}
use Rattle.model.specs.States.{State, accepting, is_shut, posting, releasing}
use Rattle.runs.specs.Promise.{Begins, BooksInStep, RollsInStep, ToldByStates, roll_of}
use Rattle.runs.specs.Runs.{Call, IsRoll, Moment, Run, Step, after, beginning, call_next, moment, one_if_done, post_count, posts, replied, state_at, write, offer, release, post, show}
use Rattle.runs.proofs.Reached.{accepted-told}

-- The roll of a station is what it shows, and no other list is.

never-some : {A : Type 0} (value : A) → ◌≡◌ {A = Option A} None (Some value) → ⊥
never-some value e = let z : ◌≡◌ {A = ℕ} 0 1 = cc in omega arith

shown-at :
    (state : State) (shut : Bool) (before : ℕ) (entry : Entry) → slice_get (cond shut [] state.roll) before ≡ Some entry
    → (outcome state (cond shut (Err Setting) (shown_entry (slice_get state.roll before))) (λ e. e) (λ _. state)).answer
    ≡ Ok entry
shown-at state true before entry e = absurd (never-some entry e)
shown-at state false before entry e =
    ap (λ (found : Option Entry). (outcome state (shown_entry found) (λ e. e) (λ _. state)).answer) e

nothing-after : {A : Type 0} (entries : List A) → slice_get entries (length entries) ≡ None
nothing-after [] = refl
nothing-after (first ∷ rest) = nothing-after rest

refused-at :
    (state : State) (shut : Bool)
    → (fault : Fault)
    × ((outcome state (cond shut (Err Setting) (shown_entry (slice_get state.roll (length (cond shut [] state.roll)))))
    (λ e. e) (λ _. state)).answer ≡ Err fault)
refused-at state true = (Setting, refl)
refused-at state false = (
  NoSuchPlace,
  ap (λ (found : Option Entry). (outcome state (shown_entry found) (λ e. e) (λ _. state)).answer)
      (nothing-after state.roll),
)

pub roll-told : (state : State) → IsRoll state (roll_of state)
roll-told state =
    record {
      shown = λ before entry e. shown-at state (is_shut state) before entry e;
      refused = refused-at state (is_shut state);
    }

not_both : (answer : Result Entry Fault) (entry : Entry) (fault : Fault) → answer ≡ Ok entry → answer ≡ Err fault → ⊥
not_both answer entry fault e f = let z : ◌≡◌ {A = ℕ} 0 1 = cc in omega arith

-- two lists of what is shown up to the first refusal are one
shown-once :
    (show-at : ℕ → Result Entry Fault) (entries others : List Entry)
    → ((before : ℕ) (entry : Entry) → slice_get entries before ≡ Some entry → show-at before ≡ Ok entry)
    → ((fault : Fault) × (show-at (length entries) ≡ Err fault))
    → ((before : ℕ) (entry : Entry) → slice_get others before ≡ Some entry → show-at before ≡ Ok entry)
    → ((fault : Fault) × (show-at (length others) ≡ Err fault)) → entries ≡ others
shown-once show-at [] [] shown refused shown' refused' = refl
shown-once show-at [] (second ∷ others) shown refused shown' refused' =
    absurd (not_both (show-at 0) second refused.0 (shown' 0 second refl) refused.1)
shown-once show-at (first ∷ rest) [] shown refused shown' refused' =
    absurd (not_both (show-at 0) first refused'.0 (shown 0 first refl) refused'.1)
shown-once show-at (first ∷ rest) (second ∷ others) shown refused shown' refused' =
    let here = shown 0 first refl in
    let there = shown' 0 second refl in
    let same : first ≡ second = cc in
    let rests : rest ≡ others =
    shown-once (λ before. show-at (suc before)) rest others (λ before entry e. shown (suc before) entry e) refused
    (λ before entry e. shown' (suc before) entry e) refused' in
    cc

pub one_roll : (state : State) (entries : List Entry) → IsRoll state entries → entries ≡ roll_of state
one_roll state entries told =
    let rolled = roll-told state in
    shown-once (λ before. (show_of state (suc before)).answer) entries (roll_of state)
    told.shown told.refused rolled.shown rolled.refused

-- The roll only grows, and only at its end.

begins-itself : (entries : List Entry) → Begins entries entries
begins-itself entries = ([], sym (append-nil entries))

begins_on : (entries others more : List Entry) → Begins entries others → Begins others more → Begins entries more
begins_on entries others more first second = (
  first.0 ++ second.0,
  second.1 ∙ ap (λ (l : List Entry). l ++ second.0) first.1
      ∙ append_assoc entries first.0 second.0,
)

-- what holds of the state before a call and of every state that it can leave holds of the state after
left_by :
    {Decided Answer : Type 0} (Holds : State → Type 0) (state : State) (decided : Result Decided Fault)
    (tell : Decided → Answer) (leave : Decided → State)
    → Holds state → ((found : Decided) → Holds (leave found)) → Holds (outcome state decided tell leave).next
left_by Holds state (Ok found) tell leave before each = each found
left_by Holds state (Err fault) tell leave before each = before

module _ {Held Reply : Type 0} (step : Step Held Reply) where
  -- a moment with another state
  abbrev with_state : Moment Held Reply → State → Moment Held Reply
  with_state at state = record { state = state; held = at.held; replies = at.replies }

  -- what holds of how many posts a call makes and of the moment that it leaves: only a post makes one
  each_call :
      (Holds : ℕ → Moment Held Reply → Type 0) (at : Moment Held Reply)
      → Holds 0 at → ((message : Message) → Holds 0 (with_state at (accepting at.state message)))
      → ((wave : List Entry) → Holds 0 (with_state at (releasing at.state wave)))
      → Holds (post_count step at post) (call_next step at post)
      → (call : Call) → Holds (post_count step at call) (call_next step at call)
  each_call Holds at same accepted settled posted (write class order note block) =
      left_by (λ state. Holds 0 (with_state at state)) at.state (write_decided at.state class order note block)
      (λ _. tt) (accepting at.state) same accepted
  each_call Holds at same accepted settled posted (offer block) =
      left_by (λ state. Holds 0 (with_state at state)) at.state (offer_decided at.state block)
      (λ _. tt) (accepting at.state) same accepted
  each_call Holds at same accepted settled posted (release rule lawful order orderly) =
      left_by (λ state. Holds 0 (with_state at state)) at.state (release_decided at.state rule order)
      length (releasing at.state) same settled
  each_call Holds at same accepted settled posted post = posted
  each_call Holds at same accepted settled posted (show place) =
      left_by (λ state. Holds 0 (with_state at state)) at.state (show_decided at.state place)
      (λ entry. entry) (λ _. at.state) same (λ _. same)

roll-next :
    {Held Reply : Type 0} (step : Step Held Reply) (at : Moment Held Reply) (call : Call)
    → Begins at.state.roll (call_next step at call).state.roll
roll-next {Held} {Reply} step at call =
    each_call step (λ _ (next : Moment Held Reply). Begins at.state.roll next.state.roll) at
    (begins-itself at.state.roll) (λ _. begins-itself at.state.roll) (λ wave. (wave, refl))
    (left_by (λ state. Begins at.state.roll state.roll) at.state (post_decided at.state)
    (λ entry. (step at.held entry.message.order).0) (λ _. posting at.state)
    (begins-itself at.state.roll) (λ _. begins-itself at.state.roll))
    call

pub roll_grows :
    {Held Reply : Type 0} (step : Step Held Reply) (at : Moment Held Reply) (calls : List Call)
    → Begins at.state.roll (after step at calls).state.roll
unfolding after
roll_grows step at [] = begins-itself at.state.roll
roll_grows step at (call ∷ calls) =
    begins_on at.state.roll (call_next step at call).state.roll
    (after step (call_next step at call) calls).state.roll
    (roll-next step at call) (roll_grows step (call_next step at call) calls)

-- What is carried out.

-- the order bytes of entries
abbrev pub orders : List Entry → List (List ℕ)
orders entries = map (λ entry. entry.message.order) entries

-- those of the entries that are posted
abbrev pub carried_out : State → List (List ℕ)
carried_out state = orders (take state.posted (roll_of state))

-- a book holds and has replied what its steps over them give
pub record BookStands {Held Reply : Type 0}
    (step : Step Held Reply) (start : Held) (state : State) (held : Held) (given : List Reply) : Type 0 where
  pub holds : held ≡ held_after step start (carried_out state)
  pub gave : given ≡ replies step start (carried_out state)
  pub within : state.posted ≤ length (roll_of state)

take_next :
    (entries : List Entry) (before : ℕ) (entry : Entry) → slice_get entries before ≡ Some entry
    → (take (suc before) entries ≡ take before entries ++ entry ∷ []) × (suc before ≤ length entries)
take_next [] before entry e = absurd (never-some entry e)
take_next (first ∷ rest) zero entry e =
    (ap (λ (found : Entry). found ∷ []) (let same : first ≡ entry = cc in same), omega arith)
take_next (first ∷ rest) (suc before) entry e =
    let below = take_next rest before entry e in
    (ap (λ (l : List Entry). first ∷ l) below.0, omega (arith, below.1))

module _ {Held Reply : Type 0} (step : Step Held Reply) where
  -- one order more

  held_push :
      (held : Held) (before : List (List ℕ)) (order : List ℕ)
      → held_after step held (before ++ order ∷ []) ≡ (step (held_after step held before) order).1
  held_push held [] order = refl
  held_push held (first ∷ rest) order = held_push (step held first).1 rest order

  replies_push :
      (held : Held) (before : List (List ℕ)) (order : List ℕ)
      → replies step held (before ++ order ∷ [])
      ≡ replies step held before ++ (step (held_after step held before) order).0 ∷ []
  replies_push held [] order = refl
  replies_push held (first ∷ rest) order =
      ap (λ (l : List Reply). (step held first).0 ∷ l) (replies_push (step held first).1 rest order)

  -- there are as many replies as orders
  replies_long : (held : Held) (before : List (List ℕ)) → length (replies step held before) ≡ length before
  replies_long held [] = refl
  replies_long held (first ∷ rest) = ap suc (replies_long (step held first).1 rest)

module _ {Held Reply : Type 0} (step : Step Held Reply) (start : Held) where
  -- a call that is no post leaves the entries that are posted

  stands_accepting :
      (state : State) (held : Held) (given : List Reply) (message : Message)
      → BookStands step start state held given → BookStands step start (accepting state message) held given
  stands_accepting state held given message stands =
      record { holds = stands.holds; gave = stands.gave; within = stands.within }

  stands_releasing :
      (state : State) (held : Held) (given : List Reply) (wave : List Entry)
      → BookStands step start state held given → BookStands step start (releasing state wave) held given
  stands_releasing state held given wave stands =
      let same = grown (is_shut state) stands.within in
      record {
        holds = stands.holds ∙ ap (λ (l : List Entry). held_after step start (orders l)) (sym same.0);
        gave = stands.gave ∙ ap (λ (l : List Entry). replies step start (orders l)) (sym same.0);
        within = same.1;
      }
    where
      grown :
          (shut : Bool) → state.posted ≤ length (cond shut [] state.roll)
          → (take state.posted (cond shut [] (state.roll ++ wave)) ≡ take state.posted (cond shut [] state.roll))
          × (state.posted ≤ length (cond shut [] (state.roll ++ wave)))
      grown true fits = (refl, fits)
      grown false fits =
          (take-append-le state.posted state.roll wave fits, omega (arith, fits, length-append state.roll wave))

  -- a post carries out the next entry
  stands_posting :
      (state : State) (held : Held) (given : List Reply) (entry : Entry)
      → is_shut state ≡ false → slice_get state.roll state.posted ≡ Some entry
      → BookStands step start state held given
      → BookStands step start (posting state) (step held entry.message.order).1
      (given ++ (step held entry.message.order).0 ∷ [])
  stands_posting state held given entry live e stands =
      let next =
      take_next (roll_of state) state.posted entry
      (ap (λ shut. slice_get (cond shut [] state.roll) state.posted) live ∙ e) in
      let more : orders (take (suc state.posted) (roll_of state)) ≡ carried_out state ++ entry.message.order ∷ [] =
      ap orders next.0 ∙ map_push (λ (x : Entry). x.message.order) (take state.posted (roll_of state)) entry in
      record {
        holds =
            ap (λ (h : Held). (step h entry.message.order).1) stands.holds
            ∙ sym (ap (held_after step start) more ∙ held_push step start (carried_out state) entry.message.order);
        gave =
            ap₂ (λ (l : List Reply) (h : Held). l ++ (step h entry.message.order).0 ∷ []) stands.gave stands.holds
            ∙ sym (ap (replies step start) more ∙ replies_push step start (carried_out state) entry.message.order);
        within = next.1;
      }

  stands_post :
      (state : State) (held : Held) (given : List Reply) (shut : Bool) (found : Option Entry)
      → is_shut state ≡ shut → slice_get state.roll state.posted ≡ found
      → BookStands step start state held given
      → BookStands step start
      (outcome state (cond shut (Err Setting) (to_post found)) (λ entry. (step held entry.message.order).0)
      (λ _. posting state)).next
      (held_left step held (cond shut (Err Setting) (to_post found)))
      (replied given (outcome state (cond shut (Err Setting) (to_post found))
      (λ entry. (step held entry.message.order).0) (λ _. posting state)).answer)
  stands_post state held given true found live e stands = stands
  stands_post state held given false (Some entry) live e stands = stands_posting state held given entry live e stands
  stands_post state held given false None live e stands = stands

  stands_next :
      (at : Moment Held Reply) (call : Call) → BookStands step start at.state at.held at.replies
      → BookStands step start (call_next step at call).state (call_next step at call).held
      (call_next step at call).replies
  stands_next at call stands =
      each_call step
      (λ _ (next : Moment Held Reply). BookStands step start next.state next.held next.replies) at stands
      (λ message. stands_accepting at.state at.held at.replies message stands)
      (λ wave. stands_releasing at.state at.held at.replies wave stands)
      (stands_post at.state at.held at.replies (is_shut at.state) (slice_get at.state.roll at.state.posted)
      refl refl stands)
      call

  stands_after :
      (at : Moment Held Reply) (calls : List Call) → BookStands step start at.state at.held at.replies
      → BookStands step start (after step at calls).state (after step at calls).held (after step at calls).replies
  unfolding after
  stands_after at [] stands = stands
  stands_after at (call ∷ calls) stands = stands_after (call_next step at call) calls (stands_next at call stands)

pub book-stands :
    {Held Reply : Type 0} (run : Run Held Reply) (calls : List Call)
    → BookStands run.step run.start (state_at run calls) (moment run calls).held (moment run calls).replies
book-stands run calls =
    stands_after run.step run.start (beginning run) calls
    (record { holds = refl; gave = refl; within = omega arith })

-- no more is posted than is on the roll
pub posted-within :
    {Held Reply : Type 0} (run : Run Held Reply) (calls : List Call)
    → (state_at run calls).posted ≤ length (state_at run calls).roll
posted-within run calls = shown (is_shut (state_at run calls)) (book-stands run calls).within
  where
    shown :
        (shut : Bool) → (state_at run calls).posted ≤ length (cond shut [] (state_at run calls).roll)
        → (state_at run calls).posted ≤ length (state_at run calls).roll
    shown true none = omega (arith, none)
    shown false fits = fits

-- How many entries are posted.

module _ {Held Reply : Type 0} (step : Step Held Reply) where
  post_told :
      (state : State) (held : Held) (decided : Result Entry Fault)
      → one_if_done (outcome state decided (λ entry. (step held entry.message.order).0) (λ _. posting state)).answer
      + state.posted
      ≡ (outcome state decided (λ entry. (step held entry.message.order).0) (λ _. posting state)).next.posted
  post_told state held (Ok entry) = omega arith
  post_told state held (Err fault) = omega arith

  posted_next :
      (at : Moment Held Reply) (call : Call)
      → post_count step at call + at.state.posted ≡ (call_next step at call).state.posted
  posted_next at call =
      each_call step (λ count (next : Moment Held Reply). count + at.state.posted ≡ next.state.posted) at
      (omega arith) (λ _. omega arith) (λ _. omega arith) (post_told at.state at.held (post_decided at.state)) call

  posts_after :
      (at : Moment Held Reply) (calls : List Call)
      → posts step at calls + at.state.posted ≡ (after step at calls).state.posted
  unfolding posts after
  posts_after at [] = omega arith
  posts_after at (call ∷ calls) =
      let here = posted_next at call in
      let below = posts_after (call_next step at call) calls in
      omega (arith, here, below)

pub posts-told :
    {Held Reply : Type 0} (run : Run Held Reply) (calls : List Call)
    → posts run.step (beginning run) calls ≡ (state_at run calls).posted
posts-told run calls = omega (arith, posts_after run.step (beginning run) calls)

pub replies-told :
    {Held Reply : Type 0} (run : Run Held Reply) (calls : List Call)
    → length (moment run calls).replies ≡ posts run.step (beginning run) calls
replies-told {Held} {Reply} run calls =
    let stands = book-stands run calls in
    ap (λ (l : List Reply). length l) stands.gave
    ∙ replies_long run.step run.start (carried_out (state_at run calls))
    ∙ length-map (take (state_at run calls).posted (roll_of (state_at run calls))) (λ (x : Entry). x.message.order)
    ∙ length-take-le (state_at run calls).posted (roll_of (state_at run calls)) stands.within
    ∙ sym (posts-told run calls)

-- Books that follow rolls in step.

-- of two lists, one a beginning of the other, the first so many entries are the same
same-front :
    (entries others : List Entry) (long : ℕ) → long ≤ length entries → long ≤ length others
    → Begins entries others ⊎ Begins others entries → take long entries ≡ take long others
same-front entries others long fits fits' (inl begins) =
    sym (ap (take long) begins.1 ∙ take-append-le long entries begins.0 fits)
same-front entries others long fits fits' (inr begins) =
    ap (take long) begins.1 ∙ take-append-le long others begins.0 fits'

-- with one step and one start, after equally many posts of rolls of which one is a beginning of the other, two books
-- hold the same and have replied the same
pub books_follow_rolls :
    {Held Reply : Type 0} (run other : Run Held Reply)
    → ((held : Held) (bytes : List ℕ) → run.step held bytes ≡ other.step held bytes) → run.start ≡ other.start
    → (calls calls' : List Call)
    → Begins (roll_of (state_at run calls)) (roll_of (state_at other calls'))
    ⊎ Begins (roll_of (state_at other calls')) (roll_of (state_at run calls))
    → posts run.step (beginning run) calls ≡ posts other.step (beginning other) calls'
    → ((moment run calls).held ≡ (moment other calls').held) × ((moment run calls).replies ≡ (moment other calls').replies)
books_follow_rolls {Held} {Reply} run other same_step same_start calls calls' begins posted =
    let stands = book-stands run calls in
    let stands' = book-stands other calls' in
    let long : (state_at run calls).posted ≡ (state_at other calls').posted =
    sym (posts-told run calls) ∙ posted ∙ posts-told other calls' in
    let front : take (state_at run calls).posted (roll_of (state_at run calls))
    ≡ take (state_at run calls).posted (roll_of (state_at other calls')) =
    same-front (roll_of (state_at run calls)) (roll_of (state_at other calls')) (state_at run calls).posted
    stands.within (omega (arith, long, stands'.within)) begins in
    let done : carried_out (state_at run calls) ≡ carried_out (state_at other calls') =
    ap orders (front ∙ ap (λ (k : ℕ). take k (roll_of (state_at other calls'))) long) in
    let step : run.step ≡ other.step = fun_ext (λ held. fun_ext (λ bytes. same_step held bytes)) in (
      stands.holds
          ∙ ap (held_after run.step run.start) done
          ∙ ap₂ (λ (s : Step Held Reply) (h : Held). held_after s h (carried_out (state_at other calls'))) step same_start
          ∙ sym stands'.holds,
      stands.gave
          ∙ ap (replies run.step run.start) done
          ∙ ap₂ (λ (s : Step Held Reply) (h : Held). replies s h (carried_out (state_at other calls'))) step same_start
          ∙ sym stands'.gave,
    )

pub books_in_step-from : {Held Reply : Type 0} → RollsInStep Held Reply → BooksInStep Held Reply
books_in_step-from rolls run other group calls later calls' later' whole whole' posted =
    books_follow_rolls run other group.same_step group.same_start calls calls'
    (rolls run other group calls later calls' later' whole whole'
    (roll_of (state_at run calls)) (roll_of (state_at other calls'))
    (roll-told (state_at run calls)) (roll-told (state_at other calls')))
    posted

-- What runs are told in is what their states hold.
pub told-by_states : {Held Reply : Type 0} → ToldByStates Held Reply
told-by_states =
    record { accepted = accepted-told; roll = roll-told; one_roll = one_roll; posted = posts-told; replied = replies-told }
