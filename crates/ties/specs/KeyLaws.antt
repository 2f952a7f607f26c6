-- An order by a key is lawful. Assumes nothing.
use Rattle.std.specs.Prelude.{◌≡◌, ◌≢◌, ℕ, ◌≤◌, true, false, not, ◌&&◌, refl}
use Rattle.std.proofs.Common.{arith, ap, sym, subst}
use Rattle.std.proofs.lemmas.Bool.Decides.{nat_tests}
use Rattle.std.specs.Cmp.{IsTotalOrder}
use Rattle.std.specs.Ordering.{is_lt, ordering_reverse}
use Rattle.std.specs.declared.cmp.Ordering.{Ordering}
use Rattle.std.specs.declared.cmp.Ordering.TheVariants.{Less, Equal, Greater}
use Rattle.ties.specs.declared.tie.Head.{Head}
use Rattle.ties.specs.Keys.{IsByKey}
use Rattle.ties.specs.Ties.{Apart, Lawful, Member, TieMeaning, asked}

-- What is asked, and what is not.

is_asked : (n wave : ℕ) (a b : Head) → 1 ≤ wave → Member n a → Member n b → Apart a b → asked n wave a b ≡ true
is_asked n wave a b from_one of_a of_b apart = grind (arith, nat_tests)

not_with_itself : (n wave : ℕ) (a b : Head) → a.station ≡ b.station → asked n wave a b ≡ false
not_with_itself n wave a b same = grind (arith, nat_tests)

no_first : (n wave : ℕ) (a b : Head) → (Member n a → ⊥) → asked n wave a b ≡ false
no_first n wave a b stranger = grind (arith, nat_tests)

no_second : (n wave : ℕ) (a b : Head) → (Member n b → ⊥) → asked n wave a b ≡ false
no_second n wave a b stranger = grind (arith, nat_tests)

-- How answers of a comparison turn.

turned : (o : Ordering) → o ≢ Equal → is_lt (ordering_reverse o) ≡ not (is_lt o)
turned Less apart = refl
turned Equal apart = absurd (apart refl)
turned Greater apart = refl

less : (o : Ordering) → is_lt o ≡ true → o ≡ Less
less Less lower = refl
less Equal lower = cc
less Greater lower = cc

-- by the laws of the order of keys, such an order is lawful
pub lawful_by_key :
    {Value : Type 0} {cmp : Value → Value → Ordering} → IsTotalOrder cmp
    → {order : ℕ → TieMeaning} {key : ℕ → ℕ → Head → Value} → IsByKey cmp order key
    → (n : ℕ) → Lawful (order n)
lawful_by_key {Value} {cmp} total {order} {key} by n =
    let keyed : Lawful (record { n = n; before = λ wave a b. asked n wave a b && is_lt (cmp (key n wave a) (key n wave b)) }) =
    record {
      one_first = λ wave a b from_one of_a of_b apart.
          rw (is_asked n wave a b from_one of_a of_b apart, is_asked n wave b a from_one of_b of_a (λ e. apart (sym e)), total.antisymm (key n wave b) (key n wave a))
          (turned _ (by.apart n wave a b from_one of_a of_b apart));
      passed_on = λ wave a b c from_one of_a of_b of_c a_b b_c a_c first second.
          rw (is_asked n wave a c from_one of_a of_c a_c)
          (ap is_lt (total.trans _ (key n wave b) _
          (less _ (rw (is_asked n wave a b from_one of_a of_b a_b) at first))
          (less _ (rw (is_asked n wave b c from_one of_b of_c b_c) at second))));
      no_wave = λ a b. refl;
      not_itself = λ wave a b same. rw (not_with_itself n wave a b same);
      no_stranger_first = λ wave a b stranger. rw (no_first n wave a b stranger);
      no_stranger_second = λ wave a b stranger. rw (no_second n wave a b stranger);
    } in
    subst Lawful (λ i. record { n = sym (by.size n) i; before = λ wave a b. sym (by.answer n wave a b) i }) keyed
