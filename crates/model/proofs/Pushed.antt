-- One message more at the end of a list: look-ups and tallies. Assumes nothing.
use Rattle.std.proofs.Common.{◌≡◌, ℕ, ◌+◌, ◌≤◌, Bool, true, false, cond, eqb, ◌⊎◌, List, [], ◌∷◌, ◌++◌, length, Some, None, Option, sym, refl, ap, ◌∙◌, inl, inr, ⊎_elim, arith}
use Rattle.std.proofs.lemmas.Grind.{common_steps}
use Rattle.std.proofs.lemmas.Bool.{and_parts, eqb-true}
use Rattle.wire.specs.declared.message.Message.{Message}
use Rattle.model.specs.Accepted.{accepted_as, is_named, or_else, tally}
use Rattle.model.specs.Waves.{On}

-- the newest message is found first
pub accepted-push :
    (messages : List Message) (message : Message) (station number : ℕ)
    → accepted_as (messages ++ message ∷ []) station number
    ≡ cond (is_named message station number) (Some message) (accepted_as messages station number)
unfolding accepted_as
accepted-push [] message station number = refl
accepted-push (first ∷ rest) message station number =
    ap (λ o. or_else o (cond (is_named first station number) (Some first) None)) (accepted-push rest message station number)
    ∙ found (is_named message station number)
  where
    found :
        (here : Bool)
        → or_else (cond here (Some message) (accepted_as rest station number)) (cond (is_named first station number) (Some first) None)
        ≡ cond here (Some message) (or_else (accepted_as rest station number) (cond (is_named first station number) (Some first) None))
    found true = refl
    found false = refl

pub accepted_old :
    (messages : List Message) (message : Message) (station number : ℕ) → is_named message station number ≡ false
    → accepted_as (messages ++ message ∷ []) station number ≡ accepted_as messages station number
accepted_old messages message station number e = grind (arith, common_steps, accepted-push)

pub accepted_new :
    (messages : List Message) (message : Message) (station number : ℕ) → is_named message station number ≡ true
    → accepted_as (messages ++ message ∷ []) station number ≡ Some message
accepted_new messages message station number e = grind (arith, common_steps, accepted-push)

pub tally-push :
    (messages : List Message) (message : Message) (station : ℕ)
    → tally (messages ++ message ∷ []) station ≡ tally messages station + cond (eqb message.station station) 1 0
unfolding tally
tally-push [] message station = omega arith
tally-push (first ∷ rest) message station = let below = tally-push rest message station in omega arith

-- a tally is at most the length
pub tally-few : (messages : List Message) (station : ℕ) → tally messages station ≤ length messages
unfolding tally
tally-few [] station = omega arith
tally-few (first ∷ rest) station =
    let below = tally-few rest station in let here = one (eqb first.station station) in omega arith
  where
    one : (b : Bool) → cond b 1 0 ≤ 1
    one true = omega arith
    one false = omega arith

-- what is found under a name has that name, and is on the list
pub record Found (messages : List Message) (station number : ℕ) (message : Message) : Type 0 where
  pub station_is : message.station ≡ station
  pub number_is : message.number ≡ number
  pub listed : On message messages

pub found-is :
    (messages : List Message) (station number : ℕ) (message : Message)
    → accepted_as messages station number ≡ Some message → Found messages station number message
unfolding accepted_as
found-is [] station number message e = cc
found-is (first ∷ rest) station number message e =
    later (accepted_as rest station number) refl (found-is rest station number message) e
  where
    here : (b : Bool) → is_named first station number ≡ b → cond b (Some first) None ≡ Some message → Found (first ∷ rest) station number message
    here true named e =
        let parts = and_parts (eqb first.station station) (eqb first.number number) named in
        let same : first ≡ message = cc in
        record {
          station_is = sym (ap (λ m. m.station) same) ∙ eqb-true first.station station parts.0;
          number_is = sym (ap (λ m. m.number) same) ∙ eqb-true first.number number parts.1;
          listed = inl (sym same);
        }
    here false named e = cc

    later :
        (o : Option Message) → accepted_as rest station number ≡ o
        → (accepted_as rest station number ≡ Some message → Found rest station number message)
        → or_else o (cond (is_named first station number) (Some first) None) ≡ Some message → Found (first ∷ rest) station number message
    later (Some other) eq below e =
        let f = below (eq ∙ e) in record { station_is = f.station_is; number_is = f.number_is; listed = inr f.listed }
    later None eq below e = here (is_named first station number) refl e

-- what is on a longer list was on it before or is what came
pub on_push :
    (messages : List Message) (message other : Message) → On other (messages ++ message ∷ [])
    → On other messages ⊎ (other ≡ message)
on_push [] message other (inl e) = inr e
on_push [] message other (inr never) = absurd never
on_push (first ∷ rest) message other (inl e) = inl (inl e)
on_push (first ∷ rest) message other (inr on) = ⊎_elim (λ o. inl (inr o)) (λ e. inr e) (on_push rest message other on)
