-- A closure that is asked at the places in turn: what `all` and `any` over them answer. Assumes nothing.
use Rattle.std.proofs.Common.{◌≡◌, ℕ, Option, ◌<◌, Bool, true, false, List, length, get_or, sym, subst, arith}
use Rattle.std.proofs.lemmas.List.FromFn.{get_or-range_with_len}
use Rattle.std.specs.Bool.{MatchBool}
use Rattle.std.specs.List.{AllWithin, HoldsAt, range_with_len}
use Rattle.std.proofs.lemmas.Iterator.{YieldsList, cases_from_all, cases_from_any}
use Rattle.std.specs.Fn.{Called, Mut}
use Rattle.std.specs.Iterator.{YieldsThen}
use Rattle.std.specs.List.{FoldsTo}
use Rattle.std.specs.Option.{MatchOption}
use Rattle.board.specs.Sets.{every, any}
use Rattle.board.proofs.FromCalls.{AnswersByPlace}
use Rattle.board.proofs.Places.{all_from, some-from, some-nothing}
use Rattle.board.proofs.Made.{all_fails}

-- at a place below 16, a test has a value
abbrev At : (ℕ → Bool) → Bool → ℕ → Type 0
At test value place = place < 16 → test place ≡ value

-- the sixteen places, in order
abbrev places : List ℕ
places = range_with_len 0 16

at_place : (test : ℕ → Bool) (value : Bool) (place : ℕ) → place < 16 → At test value (get_or places place 0) → test place ≡ value
at_place test value place below here =
    let same : get_or places place 0 ≡ place = omega (arith, get_or-range_with_len 0 16 place 0 below) in
    subst (At test value) same here below

every_from :
    (test : ℕ → Bool) (answer : Bool)
    → MatchBool answer (AllWithin (At test true) places 0 (length places)) ((k : ℕ) × (k < length places) × HoldsAt (At test false) places k)
    → answer ≡ every test
every_from test true each = sym (all_from test 16 (λ place below. at_place test true place below (each place 0 (omega arith) below)))
every_from test false some = all_fails test 16 some.0 some.1 (at_place test false some.0 some.1 (some.2 0))

any_from :
    (test : ℕ → Bool) (answer : Bool)
    → MatchBool answer ((k : ℕ) × (k < length places) × HoldsAt (At test true) places k) (AllWithin (At test false) places 0 (length places))
    → answer ≡ any test
any_from test true some = sym (some-from test 16 some.0 some.1 (at_place test true some.0 some.1 (some.2 0)))
any_from test false each =
    sym (some-nothing test 16 (λ place below. at_place test false place below (each place 0 (omega arith) below)))

-- what `all` and `any` over the sixteen places answer of a closure that answers by the place alone
module _ {F S : Type 0} {g : Mut F (ℕ × Unit {0}) Bool} {f : F} {steps : S → Option ℕ → S → Type 0} {s : S} (u : S) (test : ℕ → Bool) (answer : Bool) where
  pub every-all :
      (xs : List ℕ) × (o : Option ℕ) × (j : F) × YieldsThen steps s xs o u
      × FoldsTo (λ p x q. Called g p (x, tt) true q) f xs j
      × MatchOption o (answer ≡ true) (λ x. (answer ≡ false) × ((h : F) × Called g j (x, tt) false h))
      → YieldsList steps (λ x. x) s places → AnswersByPlace g f test → answer ≡ every test
  every-all ran yields by_place =
      every_from test answer
      (cases_from_all u f answer (At test true) (At test false) ran yields
      (λ place q call. ((by_place place true q call).0, λ below. sym (by_place place true q call).1))
      (λ place q call below. sym (by_place place false q call).1))

  pub any-any :
      (xs : List ℕ) × (o : Option ℕ) × (j : F) × YieldsThen steps s xs o u
      × FoldsTo (λ p x q. Called g p (x, tt) false q) f xs j
      × MatchOption o (answer ≡ false) (λ x. (answer ≡ true) × ((h : F) × Called g j (x, tt) true h))
      → YieldsList steps (λ x. x) s places → AnswersByPlace g f test → answer ≡ any test
  any-any ran yields by_place =
      any_from test answer
      (cases_from_any u f answer (At test true) (At test false) ran yields
      (λ place q call below. sym (by_place place true q call).1)
      (λ place q call. ((by_place place false q call).0, λ below. sym (by_place place false q call).1)))
