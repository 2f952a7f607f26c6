-- Orderly messages: a message has no smaller count than any that it follows, and each head is a candidate or
-- follows one. Assumes nothing.
use Rattle.std.proofs.Common.{◌≡◌, ℕ, zero, suc, ◌+◌, ◌-◌, ◌<◌, ◌≤◌, true, false, leb, ◌⊎◌, is_some, Some, Option, sym, refl, ap, ◌∙◌, subst, inl, inr, ⊎_elim, arith}
use Rattle.std.proofs.lemmas.Grind.{common_steps}
use Rattle.std.proofs.lemmas.Bool.{cases_Bool, cases_eq, leb-false, true≢false}
use Rattle.board.proofs.Places.{all_not}
use Rattle.wire.specs.Words.{sum_below}
use Rattle.wire.specs.declared.message.Message.{Message}
use Rattle.model.specs.Accepted.{Accepted}
use Rattle.model.specs.Following.{Follows, count_of}
use Rattle.model.specs.Heads.{Released, head, is_ready}
use Rattle.model.specs.Sound.{Orderly}
use Rattle.model.proofs.Formed.{formed}

-- what is there is some message
pub some-message : (found : Option Message) → is_some found ≡ true → (message : Message) × (found ≡ Some message)
some-message = grind (arith, common_steps, true≢false)

-- Sums of terms in order.

sum_le :
    (f g : ℕ → ℕ) (n : ℕ) → ((place : ℕ) → f place ≤ g place) → sum_below n f ≤ sum_below n g
unfolding sum_below
sum_le f g zero each = omega arith
sum_le f g (suc n) each = omega (arith, sum_le f g n each, each n)

sum_less :
    (f g : ℕ → ℕ) (n at : ℕ) → ((place : ℕ) → f place ≤ g place) → at < n → f at < g at → sum_below n f < sum_below n g
unfolding sum_below
sum_less f g zero at each below less = absurd (omega arith)
sum_less f g (suc n) at each below less =
    ⊎_elim
    (λ same. last (subst (λ k. f k < g k) same less) (sum_le f g n each))
    (λ lower. omega (arith, sum_less f g n at each (omega arith) less, each n))
    (cases_eq at n)
  where
    last : f n < g n → sum_below n f ≤ sum_below n g → sum_below n f + f n < sum_below n g + g n
    last here below = omega arith

-- how many messages a message follows
total : Message → ℕ
total message = sum_below 16 (λ place. count_of message (suc place))

total_less :
    (message other : Message) (place : ℕ) → ((station : ℕ) → count_of message station ≤ count_of other station)
    → place < 16 → count_of message (suc place) < count_of other (suc place) → total message < total other
unfolding total
total_less message other place fewer below less =
    sum_less (λ at. count_of message (suc at)) (λ at. count_of other (suc at)) 16 place (λ at. fewer (suc at))
    below less

module _ (n : ℕ) (accepted : Accepted) (orderly : Orderly n accepted) where
  -- the message of a station under a number has no larger count than a given message
  pub record Fewer (station number : ℕ) (than : Message) : Type 0 where
    pub message : Message
    pub is : accepted station number ≡ Some message
    pub counts : (third : ℕ) → count_of message third ≤ count_of than third

  -- the last message of a station that a message follows
  last_followed :
      (station number : ℕ) (message : Message) (other : ℕ) → accepted station number ≡ Some message
      → 1 ≤ count_of message other → Fewer other (count_of message other) message
  last_followed station number message other e some =
      let found =
      some-message (accepted other (count_of message other))
      (orderly.closed station number message other (count_of message other) e (some, omega arith)) in
      record {
        message = found.0;
        is = found.1;
        counts = λ third. orderly.uncrossed station number message other found.0 third e found.1;
      }

  -- a station's own messages, one by one downwards
  own_followed :
      (above station number : ℕ) (message : Message) → 1 ≤ number → accepted station (above + number) ≡ Some message
      → Fewer station number message
  own_followed zero station number message some e =
      record { message = message; is = ap (accepted station) (sym (nothing number)) ∙ e; counts = λ third. omega arith }
    where
      nothing : (k : ℕ) → 0 + k ≡ k
      nothing k = omega arith
  own_followed (suc above) station number message some e =
      let named = orderly.named station (suc above + number) message e in
      let own : count_of message station ≡ above + number = own_count named in
      let before = last_followed station (suc above + number) message station e (omega arith) in
      let found =
      own_followed above station number before.message some (sym (ap (accepted station) own) ∙ before.is) in
      record {
        message = found.message;
        is = found.is;
        counts = λ third. omega (arith, found.counts third, before.counts third);
      }
    where
      own_count :
          (message.station ≡ station) × (message.number ≡ suc above + number)
          → count_of message station ≡ above + number
      own_count named =
          let own = (formed n message (orderly.well station (suc above + number) message e)).own in
          sym (ap (count_of message) named.0) ∙ omega (arith, own, named.1)

  -- any message that a message follows
  pub followed_fewer :
      (station number : ℕ) (message : Message) (other before : ℕ) → accepted station number ≡ Some message
      → Follows message other before → Fewer other before message
  followed_fewer station number message other before e follows =
      let last = last_followed station number message other e (omega arith) in
      let found =
      own_followed (count_of message other - before) other before last.message follows.0
      (ap (accepted other) (up (count_of message other) follows.1) ∙ last.is) in
      record {
        message = found.message;
        is = found.is;
        counts = λ third. omega (arith, found.counts third, last.counts third);
      }
    where
      up : (count : ℕ) → before ≤ count → (count - before) + before ≡ count
      up count within = omega arith

  -- Heads, whatever is released.

  module _ (released : Released) where
    -- a candidate that is the head at a place, or that the message follows
    pub record Backed (place : ℕ) (message : Message) : Type 0 where
      pub at : ℕ
      pub small : at < 16
      pub candidate : Message
      pub is : head accepted released (suc at) ≡ Some candidate
      pub ready : is_ready released candidate ≡ true
      pub how : (place ≡ at) ⊎ (released (suc at) < count_of message (suc at))

    -- a head that is not ready follows a head that follows less
    lower_head :
        (place : ℕ) (message : Message) → head accepted released (suc place) ≡ Some message
        → is_ready released message ≡ false
        → (at : ℕ) × (at < 16) × (released (suc at) < count_of message (suc at))
        × (lower : Fewer (suc at) (suc (released (suc at))) message) × (total lower.message < total message)
    lower_head place message e unready =
        let found = all_not (λ at. leb (count_of message (suc at)) (released (suc at))) 16 unready in
        let more = leb-false (count_of message (suc found.0)) (released (suc found.0)) found.2 in
        let lower =
        followed_fewer (suc place) (suc (released (suc place))) message
        (suc found.0) (suc (released (suc found.0))) e (omega arith, more) in
        let less =
        total_less lower.message message found.0 lower.counts found.1 (own found.0 lower more) in
        (found.0, found.1, more, lower, less)
      where
        own :
            (at : ℕ) (lower : Fewer (suc at) (suc (released (suc at))) message)
            → released (suc at) < count_of message (suc at)
            → count_of lower.message (suc at) < count_of message (suc at)
        own at lower more =
            let named = orderly.named (suc at) (suc (released (suc at))) lower.message lower.is in
            let well = orderly.well (suc at) (suc (released (suc at))) lower.message lower.is in
            let count = (formed n lower.message well).own in
            let here = ap (count_of lower.message) named.0 in
            omega (arith, count, here, named.1)

    -- each head is a candidate, or follows one: by how many messages it follows
    backed :
        (fuel place : ℕ) (message : Message) → total message < fuel → place < 16
        → head accepted released (suc place) ≡ Some message → Backed place message
    backed zero place message enough below e = absurd (omega arith)
    backed (suc fuel) place message enough below e =
        ⊎_elim
        (λ ready. record { at = place; small = below; candidate = message; is = e; ready = ready; how = inl refl })
        (λ unready.
        let step = lower_head place message e unready in
        passed step.0 step.2 step.3
        (backed fuel step.0 step.3.message (omega (arith, step.4)) step.1 step.3.is))
        (cases_Bool (is_ready released message))
      where
        passed :
            (at : ℕ) → released (suc at) < count_of message (suc at)
            → (lower : Fewer (suc at) (suc (released (suc at))) message) → Backed at lower.message
            → Backed place message
        passed at more lower found =
            record {
              at = found.at;
              small = found.small;
              candidate = found.candidate;
              is = found.is;
              ready = found.ready;
              how =
                  inr (⊎_elim (λ same. subst (λ (k : ℕ). released (suc k) < count_of message (suc k)) same more)
                  (λ less. omega (arith, less, lower.counts (suc found.at))) found.how);
            }

    pub head_backed :
        (place : ℕ) (message : Message) → place < 16 → head accepted released (suc place) ≡ Some message
        → Backed place message
    head_backed place message below e = backed (suc (total message)) place message (omega arith) below e
