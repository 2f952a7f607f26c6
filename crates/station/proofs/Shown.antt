-- The entry at a place of a lent roll, and what show answers. Assumes nothing.
use Rattle.std.proofs.Common.{◌≡◌, ℕ, zero, suc, ◌-◌, ◌≤◌, ltb, List, length, map, get_or, take, is_some, Some, None, Ok, Err, Option, Result, sym, refl, ap, ◌∙◌, subst, arith}
use denote.Ref.{Bor}
use Rattle.std.specs.List.{slice_get}
use Rattle.std.specs.Option.{IfSome, option_map}
use Rattle.std.proofs.lemmas.List.{length-map, length-take-le}
use Rattle.std.proofs.lemmas.Option.{slice_get-map, slice_get_past, slice_get_read}
use Rattle.std.proofs.lemmas.Bool.{ltb-false, ltb-true}
use Rattle.model.specs.Calls.{outcome, show_decided}
use Rattle.model.specs.Meanings.{ShowAnswers}
use Rattle.model.specs.States.{State, entry_at}
use Rattle.model.proofs.AnswerLaws.{show_answers}
use Rattle.wire.specs.declared.fault.Fault.{Fault}
use Rattle.model.specs.declared.entry.Entry.{Entry}
use Rattle.station.specs.Memory.{contents_in}
use Rattle.station.specs.Standing.{state_of_station}
use Rattle.station.specs.declared.station.Station.{Station}
use Rattle.station.specs.declared.places.Place.{Place}
use Rattle.station.proofs.Looked.{map_twice}

pub entries-long : (roll : List (Place Entry)) (rolled : ℕ) → rolled ≤ length roll → length (contents_in rolled roll) ≡ rolled
entries-long roll rolled fits = length-map (take rolled roll) (λ place. place.content) ∙ length-take-le rolled roll fits

-- what `get` lends of a list
got_item :
    {Item : Type 0} (items : List Item) (place : ℕ) (got : Option (Bor Item)) → is_some got ≡ ltb place (length items)
    → IfSome got (λ x. x.now ≡ get_or items place x.now) → option_map (λ x. x.now) got ≡ slice_get items place
got_item items place None some here = sym (slice_get_past items place (ltb-false place (length items) (sym some)))
got_item items place (Some x) some here =
    sym (slice_get_read items (length items) place x.now refl (ltb-true place (length items) (sym some)) here)

-- the entry at a place is what the roll holds before it
pub shown_there :
    (places : List (Place Entry)) (place before : ℕ) (got : Option (Bor (Place Entry))) → 1 ≤ place → before ≡ place - 1
    → is_some got ≡ ltb before (length places) → IfSome got (λ x. x.now ≡ get_or places before x.now)
    → option_map (λ x. x.now.content) got ≡ entry_at (map (λ place. place.content) places) place
shown_there places zero before got first is some here = absurd (omega arith)
shown_there places (suc place) before got first is some here =
    let same : before ≡ place = omega arith in
    map_twice got (λ x. x.now) (λ place. place.content)
    ∙ ap (option_map (λ place. place.content)) (got_item places before got some here)
    ∙ sym (slice_get-map (λ place. place.content) places before)
    ∙ ap (slice_get (map (λ place. place.content) places)) same

-- what show answers is what was decided
show_tells : (state : State) (shown : Result Entry Fault) → (outcome state shown (λ entry. entry) (λ _. state)).answer ≡ shown
show_tells state (Ok entry) = refl
show_tells state (Err fault) = refl

-- the answers of show come exactly when they should
pub show_answered :
    (station : Station) (place : ℕ) (r : Result Entry Fault) → r ≡ show_decided (state_of_station station) place
    → ShowAnswers (state_of_station station) place r
show_answered station place r shown =
    subst (ShowAnswers (state_of_station station) place)
    (show_tells (state_of_station station) (show_decided (state_of_station station) place) ∙ sym shown)
    (show_answers (state_of_station station) place)
