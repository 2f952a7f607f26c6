-- What comparing lists of numbers tells of messages that are alike. Assumes nothing.
use Rattle.std.proofs.Common.{◌≡◌, ℕ, Bool, true, false, not, ◌&&◌, eqb, List, Decides, sym, refl, arith}
use Rattle.std.specs.Cmp.Lexicographic.{pointwise}
use Rattle.std.proofs.lemmas.Slice.Eq.{slice_eq-Decides}
use Rattle.std.proofs.lemmas.Bool.{true≢false}
use Rattle.std.proofs.lemmas.Bool.Decides.{nat_tests, Decides-eqb}
use Rattle.model.specs.Following.{same_numbers}
use Rattle.model.proofs.MessageFacts.{same_decides}

-- two tests that decide the same are one
pub decided_same : {P : Type 0} (r s : Bool) → Decides r P → Decides s P → r ≡ s
decided_same true s d e = sym (e.1 (d.0 refl))
decided_same false true d e = absurd (true≢false (sym (d.1 (e.0 refl))))
decided_same false false d e = refl

-- what `==` answers on lists of numbers
pub same-told : (xs ys : List ℕ) (r : Bool) → r ≡ pointwise eqb xs ys → r ≡ same_numbers xs ys
same-told xs ys r e = decided_same r (same_numbers xs ys) (slice_eq-Decides Decides-eqb xs ys r e) (same_decides xs ys)

-- what the tests of the three parts tell
pub unlike_after : (r x same rest : Bool) → r ≡ not x → r ≡ true → x ≡ same → false ≡ (same && rest)
unlike_after r x true rest a b e = grind (arith, nat_tests)
unlike_after r x false rest a b e = refl

pub alike-told :
    (r x after class order : Bool) → r ≡ not x → r ≡ false → x ≡ after → class ≡ true → order ≡ (after && (class && order))
alike-told r x true true order a b e c = refl
alike-told r x true false order a b e c = absurd (true≢false (sym c))
alike-told r x false class order a b e c = grind (arith, nat_tests)
