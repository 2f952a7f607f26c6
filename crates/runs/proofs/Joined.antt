-- Lists of messages put together: what is on them, what is found on them, and their tallies. Assumes nothing.
use Rattle.std.proofs.Common.{◌≡◌, ℕ, ◌+◌, ◌≤◌, true, cond, eqb, ◌⊎◌, List, [], ◌∷◌, ◌++◌, is_some, Some, None, Option, sym, refl, ap, inl, inr, ⊎_elim, arith}
use Rattle.std.proofs.lemmas.List.{map-append}
use Rattle.std.proofs.lemmas.Bool.{and_from, eq-eqb, true≢false}
use Rattle.wire.specs.declared.message.Message.{Message}
use Rattle.model.specs.declared.entry.Entry.{Entry}
use Rattle.model.specs.Accepted.{accepted_as, is_named, or_else, tally}
use Rattle.model.specs.Calls.{as_entries}
use Rattle.model.specs.States.{on_roll}
use Rattle.model.specs.Waves.{On}

-- What is on two lists.

pub on_either :
    (message : Message) (first second : List Message) → On message (first ++ second)
    → On message first ⊎ On message second
on_either message [] second on = inr on
on_either message (head ∷ rest) second (inl e) = inl (inl e)
on_either message (head ∷ rest) second (inr on) =
    ⊎_elim (λ there. inl (inr there)) (λ there. inr there) (on_either message rest second on)

pub on_first : (message : Message) (first second : List Message) → On message first → On message (first ++ second)
on_first message [] second on = elim on [ ]
on_first message (head ∷ rest) second (inl e) = inl e
on_first message (head ∷ rest) second (inr on) = inr (on_first message rest second on)

pub on_second : (message : Message) (first second : List Message) → On message second → On message (first ++ second)
on_second message [] second on = on
on_second message (head ∷ rest) second on = inr (on_second message rest second on)

-- What is found.

-- the first or the second is there
else_either :
    (found other : Option Message) → (is_some found ≡ true) ⊎ (is_some other ≡ true) → is_some (or_else found other) ≡ true
else_either (Some message) other e = refl
else_either None other (inl e) = absurd (true≢false (sym e))
else_either None other (inr e) = e

either_else :
    (found other : Option Message) → is_some (or_else found other) ≡ true → (is_some found ≡ true) ⊎ (is_some other ≡ true)
either_else (Some message) other e = inl refl
either_else None other e = inr e

-- what is on a list is found there under its name, or something else is
pub on_found :
    (message : Message) (messages : List Message) → On message messages
    → is_some (accepted_as messages message.station message.number) ≡ true
unfolding accepted_as
on_found message [] on = elim on [ ]
on_found message (first ∷ rest) (inl e) =
    else_either (accepted_as rest message.station message.number)
    (cond (is_named first message.station message.number) (Some first) None)
    (inr (ap (λ here. is_some (cond here (Some first) None))
    (and_from (eqb first.station message.station) (eqb first.number message.number)
    (eq-eqb first.station message.station (ap (λ (m : Message). m.station) (sym e)))
    (eq-eqb first.number message.number (ap (λ (m : Message). m.number) (sym e))))))
on_found message (first ∷ rest) (inr on) =
    else_either (accepted_as rest message.station message.number)
    (cond (is_named first message.station message.number) (Some first) None)
    (inl (on_found message rest on))

-- what is found on a list is found on it with another behind it
pub found_first :
    (first second : List Message) (station number : ℕ) → is_some (accepted_as first station number) ≡ true
    → is_some (accepted_as (first ++ second) station number) ≡ true
unfolding accepted_as
found_first [] second station number e = absurd (true≢false (sym e))
found_first (head ∷ rest) second station number e =
    else_either (accepted_as (rest ++ second) station number) (cond (is_named head station number) (Some head) None)
    (⊎_elim (λ there. inl (found_first rest second station number there)) (λ here. inr here)
    (either_else (accepted_as rest station number) (cond (is_named head station number) (Some head) None) e))

-- How many.

pub tally-joined :
    (first second : List Message) (station : ℕ)
    → tally (first ++ second) station ≡ tally first station + tally second station
unfolding tally
tally-joined [] second station = omega arith
tally-joined (head ∷ rest) second station = let below = tally-joined rest second station in omega arith

pub tally-first : (first second : List Message) (station : ℕ) → tally first station ≤ tally (first ++ second) station
tally-first first second station = omega (arith, tally-joined first second station)

-- Messages of a roll.

pub roll-joined : (entries others : List Entry) → on_roll (entries ++ others) ≡ on_roll entries ++ on_roll others
roll-joined entries others = map-append (λ (entry : Entry). entry.message) entries others

pub wave_messages : (wave : ℕ) (messages : List Message) → on_roll (as_entries wave messages) ≡ messages
wave_messages wave [] = refl
wave_messages wave (first ∷ rest) = ap (λ (l : List Message). first ∷ l) (wave_messages wave rest)
