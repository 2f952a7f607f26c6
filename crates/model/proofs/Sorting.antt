-- Lists in a tie order: putting a message in, and that a list in order is told by what is on it. Assumes nothing.
use Rattle.std.proofs.Common.{◌≡◌, ℕ, ◌≤◌, Bool, true, false, cond, not, ◌⊎◌, List, [], ◌∷◌, sym, refl, ap, ◌∙◌, inl, inr, ⊎_elim, arith}
use Rattle.std.proofs.lemmas.Grind.{common_steps}
use Rattle.std.proofs.lemmas.Bool.{true≢false}
use Rattle.ties.specs.Ties.{Lawful, Member, TieMeaning}
use Rattle.wire.specs.declared.message.Message.{Message}
use Rattle.model.specs.Waves.{Ascending, BeforeAll, On, as_head, goes_before, in_order, put_in}

-- What is on a list that a message was put into.

put_either :
    (here : Bool) (message first other : Message) (rest put : List Message)
    → (On other put → (other ≡ message) ⊎ On other rest)
    → On other (cond here (message ∷ first ∷ rest) (first ∷ put)) → (other ≡ message) ⊎ On other (first ∷ rest)
put_either = grind (arith, common_steps)

pub put_on :
    (order : TieMeaning) (wave : ℕ) (message other : Message) (messages : List Message)
    → On other (put_in order wave message messages) → (other ≡ message) ⊎ On other messages
unfolding put_in
put_on order wave message other [] on = on
put_on order wave message other (first ∷ rest) on =
    put_either (goes_before order wave message first) message first other rest (put_in order wave message rest)
    (put_on order wave message other rest) on

either_put :
    (here : Bool) (message first other : Message) (rest put : List Message)
    → ((other ≡ message) ⊎ On other rest → On other put)
    → (other ≡ message) ⊎ On other (first ∷ rest) → On other (cond here (message ∷ first ∷ rest) (first ∷ put))
either_put = grind (arith, common_steps)

pub on_put :
    (order : TieMeaning) (wave : ℕ) (message other : Message) (messages : List Message)
    → (other ≡ message) ⊎ On other messages → On other (put_in order wave message messages)
unfolding put_in
on_put order wave message other [] on = on
on_put order wave message other (first ∷ rest) on =
    either_put (goes_before order wave message first) message first other rest (put_in order wave message rest)
    (on_put order wave message other rest) on

-- Sorting keeps what is on a list.

pub sorted_on :
    (order : TieMeaning) (wave : ℕ) (other : Message) (messages : List Message)
    → On other (in_order order wave messages) → On other messages
unfolding in_order
sorted_on order wave other [] on = on
sorted_on order wave other (first ∷ rest) on =
    ⊎_elim (λ e. inl e) (λ there. inr (sorted_on order wave other rest there))
    (put_on order wave first other (in_order order wave rest) on)

pub on_sorted :
    (order : TieMeaning) (wave : ℕ) (other : Message) (messages : List Message)
    → On other messages → On other (in_order order wave messages)
unfolding in_order
on_sorted order wave other [] on = on
on_sorted order wave other (first ∷ rest) (inl e) =
    on_put order wave first other (in_order order wave rest) (inl e)
on_sorted order wave other (first ∷ rest) (inr on) =
    on_put order wave first other (in_order order wave rest) (inr (on_sorted order wave other rest on))

-- A message before all of a list, by each message of it.

before-each :
    (order : TieMeaning) (wave : ℕ) (message : Message) (messages : List Message)
    → ((other : Message) → On other messages → goes_before order wave message other ≡ true)
    → BeforeAll order wave message messages
before-each order wave message [] each = tt
before-each order wave message (first ∷ rest) each =
    (each first (inl refl), before-each order wave message rest (λ other on. each other (inr on)))

before-one :
    (order : TieMeaning) (wave : ℕ) (message : Message) (messages : List Message) (other : Message)
    → BeforeAll order wave message messages → On other messages → goes_before order wave message other ≡ true
before-one order wave message [] other before on = elim on [ ]
before-one order wave message (first ∷ rest) other before (inl e) =
    ap (goes_before order wave message) e ∙ before.0
before-one order wave message (first ∷ rest) other before (inr on) =
    before-one order wave message rest other before.1 on

-- no two messages of a list are of one station
abbrev pub Spread : List Message → Type 0
Spread [] = Unit {0}
Spread (first ∷ rest) = ((other : Message) → On other rest → first.station ≡ other.station → ⊥) × Spread rest

module _ (order : TieMeaning) (wave : ℕ) (lawful : Lawful order) (from_one : 1 ≤ wave) where
  -- a message that goes before another is of another station

  apart :
      (message other : Message) → goes_before order wave message other ≡ true → message.station ≡ other.station → ⊥
  apart message other before same =
      true≢false (sym before ∙ lawful.not_itself wave (as_head message) (as_head other) same)

  -- no two messages go before one another
  one_way :
      (message other : Message) → goes_before order wave message other ≡ true
      → goes_before order wave other message ≡ true → ⊥
  one_way message other there back = grind (arith, common_steps)

  -- a message that is put into an ascending list of others
  put_ascending :
      (message : Message) (messages : List Message) → Member order.n (as_head message)
      → ((other : Message) → On other messages → Member order.n (as_head other))
      → ((other : Message) → On other messages → message.station ≡ other.station → ⊥)
      → Ascending order wave messages → Ascending order wave (put_in order wave message messages)
  unfolding put_in
  put_ascending message [] own others differ ascending = (tt, tt)
  put_ascending message (first ∷ rest) own others differ ascending =
      placed (goes_before order wave message first) refl
      (put_ascending message rest own (λ other on. others other (inr on)) (λ other on. differ other (inr on))
      ascending.1)
    where
      later :
          goes_before order wave message first ≡ true
          → (other : Message) → On other rest → goes_before order wave message other ≡ true
      later here other on =
          let after = before-one order wave first rest other ascending.0 on in
          lawful.passed_on wave (as_head message) (as_head first) (as_head other) from_one
          own (others first (inl refl)) (others other (inr on))
          (differ first (inl refl)) (apart first other after) (differ other (inr on)) here after

      turned : goes_before order wave message first ≡ false → goes_before order wave first message ≡ true
      turned here =
          lawful.one_first wave (as_head message) (as_head first) from_one own (others first (inl refl))
          (differ first (inl refl))
          ∙ ap not here

      placed :
          (here : Bool) → goes_before order wave message first ≡ here
          → Ascending order wave (put_in order wave message rest)
          → Ascending order wave (cond here (message ∷ first ∷ rest) (first ∷ put_in order wave message rest))
      placed true here below =
          ((here, before-each order wave message rest (later here)), ascending)
      placed false here below = (
        before-each order wave first (put_in order wave message rest)
            (λ other on.
            ⊎_elim (λ e. ap (goes_before order wave first) e ∙ turned here)
            (λ there. before-one order wave first rest other ascending.0 there)
            (put_on order wave message other rest on)),
        below,
      )

  -- sorting messages of different stations of the group
  pub sorted_ascending :
      (messages : List Message) → ((other : Message) → On other messages → Member order.n (as_head other))
      → Spread messages → Ascending order wave (in_order order wave messages)
  unfolding in_order
  sorted_ascending [] members spread = tt
  sorted_ascending (first ∷ rest) members spread =
      put_ascending first (in_order order wave rest) (members first (inl refl))
      (λ other on. members other (inr (sorted_on order wave other rest on)))
      (λ other on. spread.0 other (sorted_on order wave other rest on))
      (sorted_ascending rest (λ other on. members other (inr on)) spread.1)

  -- of two ascending lists with the same messages on them, the first messages are one

  same_first :
      (first second : Message) (rest others : List Message)
      → BeforeAll order wave first rest → BeforeAll order wave second others
      → On first (second ∷ others) → On second (first ∷ rest) → first ≡ second
  same_first = grind (arith, common_steps, one_way, before-one)

  -- what stands after the first of an ascending list is not the first
  passed :
      (first second other : Message) (rest others : List Message) → first ≡ second
      → BeforeAll order wave first rest → On other rest → On other (second ∷ others) → On other others
  passed = grind (arith, common_steps, apart, before-one)

  -- two ascending lists with the same messages on them are equal
  pub one_list :
      (messages others : List Message) → Ascending order wave messages → Ascending order wave others
      → ((message : Message) → On message messages → On message others)
      → ((message : Message) → On message others → On message messages) → messages ≡ others
  one_list [] [] ascending rising into back = refl
  one_list [] (second ∷ others) ascending rising into back = elim (back second (inl refl)) [ ]
  one_list (first ∷ rest) [] ascending rising into back = elim (into first (inl refl)) [ ]
  one_list (first ∷ rest) (second ∷ others) ascending rising into back =
      let same : first ≡ second =
      same_first first second rest others ascending.0 rising.0 (into first (inl refl)) (back second (inl refl)) in
      let rests : rest ≡ others =
      one_list rest others ascending.1 rising.1
      (λ message on. passed first second message rest others same ascending.0 on (into message (inr on)))
      (λ message on. passed second first message others rest (sym same) rising.0 on (back message (inr on))) in
      cc
