-- Going back over the places of a table in search of a message. Assumes nothing.
use Rattle.std.proofs.Common.{◌≡◌, ℕ, Bool, true, false, cond, List, [], ◌∷◌, map, Some, None, Option, refl, ap, ◌∙◌, ap₂}
use mathlib.Core.List.{reverse}
use Rattle.std.specs.List.{find}
use Rattle.std.specs.Option.{IsSomeAnd, MatchOption, option_map, option_or}
use Rattle.std.proofs.lemmas.List.{reverse-append}
use Rattle.std.proofs.lemmas.List.Folds.{find-append}
use Rattle.model.specs.Accepted.{accepted_as, is_named, or_else}
use Rattle.wire.specs.declared.message.Message.{Message}
use Rattle.station.specs.declared.places.Place.{Place}

-- the place holds the message of this station with this number
abbrev pub named : ℕ → ℕ → Place Message → Bool
named station number place = is_named place.content station number

first_of :
    (found other : Option (Place Message)) → option_map (λ place. place.content) (option_or found other)
    ≡ or_else (option_map (λ place. place.content) found) (option_map (λ place. place.content) other)
first_of (Some place) other = refl
first_of None other = refl

one_place :
    (holds : Bool) (place : Place Message)
    → option_map (λ place. place.content) (cond holds (Some place) None) ≡ cond holds (Some place.content) None
one_place true place = refl
one_place false place = refl

-- what a search from the newest place back finds is the accepted message
pub looked-up :
    (places : List (Place Message)) (station number : ℕ)
    → option_map (λ place. place.content) (find (named station number) (reverse places))
    ≡ accepted_as (map (λ place. place.content) places) station number
unfolding accepted_as
looked-up [] station number = refl
looked-up (place ∷ places) station number =
    ap (λ all. option_map (λ p. p.content) (find (named station number) all)) (reverse-append (place ∷ []) places)
    ∙ ap (option_map (λ p. p.content)) (find-append (named station number) (reverse places) (place ∷ []))
    ∙ first_of (find (named station number) (reverse places)) (find (named station number) (place ∷ []))
    ∙ ap₂ or_else (looked-up places station number) (one_place (named station number place) place)

-- what a value becomes, if there is one, told by each call
pub mapped :
    {Given Made : Type 0} {Told : Given → Made → Type 0} (found : Option Given) (made : Option Made) (tell : Given → Made)
    → MatchOption found (made ≡ None) (λ x. IsSomeAnd made (Told x)) → ((x : Given) (y : Made) → Told x y → y ≡ tell x)
    → made ≡ option_map tell found
mapped (Some x) (Some y) tell cases says = ap Some (says x y cases)
mapped (Some x) None tell cases says = absurd cases
mapped None made tell cases says = cases

-- what it becomes in two steps
pub map_twice :
    {First Second Third : Type 0} (found : Option First) (tell : First → Second) (say : Second → Third)
    → option_map (λ x. say (tell x)) found ≡ option_map say (option_map tell found)
map_twice (Some x) tell say = refl
map_twice None tell say = refl
