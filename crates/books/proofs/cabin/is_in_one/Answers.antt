use Rattle.std.proofs.Common.{◌≡◌, ℕ, ◌≤◌, max, false, ◌||◌, leb, sym, ap, ◌∙◌, List, [], ◌∷◌, reverse, rules, tests, arith}
use Rattle.std.proofs.lemmas.List.Sorted.{IsPermutation-reverse, list_any-IsPermutation}
use Rattle.std.specs.List.{fold, list_any}
use Rattle.std.proofs.Math.Bool.{or-false, or_assoc}
use Rattle.std.proofs.lemmas.Bool.Decides.{nat_tests}
use Rattle.std.proofs.lemmas.Iterator.Adapters.{YieldsList-from_rev_slice}
use Rattle.std.proofs.lemmas.Iterator.Search.{any_from_yields_List}
use Rattle.books.specs.declared.cabin.Cabin.{Cabin}
use Rattle.books.specs.Cabin.{most}
use Rattle.books.proofs.cabin.is_in_one.Goals as goal

-- the larger of two numbers is enough just where one of them is
enough_max : (seats so_far here : ℕ) → leb seats (max so_far here) ≡ (leb seats so_far || leb seats here)
enough_max seats so_far here = grind (arith, nat_tests)

enough_more :
    (seats so_far : ℕ) (cabins : List Cabin)
    → leb seats (fold (λ so_far (c : Cabin). max so_far c.seats) so_far cabins)
    ≡ (leb seats so_far || list_any (λ (c : Cabin). leb seats c.seats) cabins)
enough_more seats so_far [] = sym (or-false (leb seats so_far))
enough_more seats so_far (cabin ∷ cabins) =
    enough_more seats (max so_far cabin.seats) cabins
    ∙ ap (λ b. b || list_any (λ (c : Cabin). leb seats c.seats) cabins) (enough_max seats so_far cabin.seats)
    ∙ or_assoc (leb seats so_far) (leb seats cabin.seats) (list_any (λ (c : Cabin). leb seats c.seats) cabins)

enough_one :
    (seats : ℕ) (cabins : List Cabin) → 1 ≤ seats
    → list_any (λ (c : Cabin). leb seats c.seats) cabins ≡ leb seats (most cabins)
enough_one seats cabins some =
    sym (enough_more seats 0 cabins ∙ ap (λ b. b || list_any (λ (c : Cabin). leb seats c.seats) cabins) none)
  where
    none : leb seats 0 ≡ false
    none = grind (arith, nat_tests)

pub returns : goal.returns
returns c =
    any_from_yields_List (λ (cabin : Cabin). leb c.args.seats cabin.seats) _ _ c.any.result c.any.ensures.ran
    (YieldsList-from_rev_slice c.args.cabins.now (search rules)) (λ x b q k. search (rules, tests))
    ∙ sym (list_any-IsPermutation (λ (cabin : Cabin). leb c.args.seats cabin.seats) c.args.cabins.now (reverse c.args.cabins.now)
    (IsPermutation-reverse c.args.cabins.now))
    ∙ enough_one c.args.seats c.args.cabins.now c.requires
