use Rattle.std.proofs.Common.{◌≡◌, ℕ, ◌+◌, ◌<◌, cond, ltb, ap, sym, refl, ◌∙◌, ⊎_elim, get_or, set, length, List, arith}
use Rattle.std.proofs.lemmas.Bool.{cases_eq, lt-ltb, le-ltb}
use Rattle.std.proofs.lemmas.Bool.Decides.{nat_tests}
use Rattle.std.proofs.lemmas.List.{length-set, get_or-replicate, get_or-set_same, get_or-set_other}
use Rattle.std.proofs.lemmas.List.FromFn.{fill_by_all}
use Rattle.books.specs.declared.cabin.Cabin.{Cabin}
use Rattle.books.specs.declared.cabin.CabinBook.{CabinBook}
use Rattle.books.specs.declared.cabin.TheConstants.{SEATS}
use Rattle.books.specs.Cabin.{at_start, home_with, no_cabin}
use Rattle.books.proofs.cabin.CabinBook.new.Goals as goal

-- a cabin that is home, with its seats if its place was passed
abbrev at_place : (ℕ → ℕ) → ℕ → ℕ → Cabin
at_place seats place k = home_with (cond (ltb k place) (seats k) 0)

-- one more cabin has its seats
seated :
    (seats : ℕ → ℕ) (cabins : List Cabin) (place : ℕ) → place < length cabins
    → get_or cabins place no_cabin ≡ at_place seats place place
    → (k : ℕ) → get_or cabins k no_cabin ≡ at_place seats place k
    → get_or (set cabins place (record { seats = seats place; home = (get_or cabins place no_cabin).home })) k no_cabin
    ≡ at_place seats (place + 1) k
seated seats cabins place inside here k there =
    ⊎_elim
    (λ same.
    ap (λ j. get_or (set cabins place (record { seats = seats place; home = (get_or cabins place no_cabin).home })) j no_cabin) same
    ∙ get_or-set_same cabins place (record { seats = seats place; home = (get_or cabins place no_cabin).home }) no_cabin inside
    ∙ ap (λ (c : Cabin). with_seats (seats place) c) here
    ∙ sym (ap (at_place seats (place + 1)) same
    ∙ ap (λ b. home_with (cond b (seats place) 0)) (lt-ltb place (place + 1) (omega arith))))
    (λ apart.
    get_or-set_other cabins place k (record { seats = seats place; home = (get_or cabins place no_cabin).home }) no_cabin apart
    ∙ there
    ∙ ap (λ b. home_with (cond b (seats k) 0)) (passed apart))
    (cases_eq k place)
  where
    with_seats : ℕ → Cabin → Cabin
    with_seats n c = record { seats = n; home = c.home }

    passed : (k ≡ place → ⊥) → ltb k place ≡ ltb k (place + 1)
    passed apart = grind (arith, nat_tests)

abbrev with_cabins : List Cabin → CabinBook
with_cabins cabins = record { cabins = cabins; slots = at_start.slots }

pub loop-place-init : goal.loop-place-init
loop-place-init c = (
  refl,
  λ k below. get_or-replicate 24 k (home_with 0) no_cabin below
      ∙ sym (ap (λ b. home_with (cond b (get_or SEATS k 0) 0)) (le-ltb k 0 (omega arith))),
)

pub loop-place-preserved : goal.loop-place-preserved
loop-place-preserved c =
    let cabins = c.loop-place.cabin-items in
    let place = c.loop-place.place in
    let long = c.loop-place.invariant.0 in
    let seats = λ (k : ℕ). get_or SEATS k 0 in (
      length-set cabins place _ ∙ long,
      λ k below. seated seats cabins place (omega arith) (c.loop-place.invariant.1 place (omega arith)) k (c.loop-place.invariant.1 k below),
    )

pub returns : goal.returns
returns c =
    ap with_cabins
    (fill_by_all (λ place. home_with (get_or SEATS place 0)) c.loop-place.cabin-items 24 no_cabin c.loop-place.invariant.0
    (λ k below. c.loop-place.invariant.1 k below
    ∙ ap (λ b. home_with (cond b (get_or SEATS k 0) 0)) (lt-ltb k c.loop-place.place (omega arith))))
