-- Reading an answer back: which tests held where a rule is settled. Assumes nothing.
use Rattle.std.specs.Prelude.{◌≡◌, ℕ, Bool, true, false, cond, ◌⊎◌, Some, None, Option, ◌==◌, ◌≢◌, refl}
use Rattle.std.proofs.Common.{inl, inr, sym, ap, arith}
use Rattle.std.proofs.lemmas.Bool.{eqb-true, ne_eqb}
use Rattle.board.specs.Rules.{of_group}
use Rattle.board.specs.declared.board.Board.{Board}

-- a test that holds just where another does
pub same_tests : (x y : Bool) → (x ≡ true → y ≡ true) → (y ≡ true → x ≡ true) → x ≡ y
same_tests true y there back = sym (there refl)
same_tests false true there back = back refl
same_tests false false there back = refl

open_not_settled : (sources : ℕ) → ◌≡◌ {A = Option ℕ} None (Some sources) → ⊥
open_not_settled sources e = let z : ◌≡◌ {A = ℕ} 0 1 = cc in omega arith

pub settled_parts :
    (b : Bool) (sources named : ℕ) → cond b (Some named) None ≡ Some sources → (b ≡ true) × (named ≡ sources)
settled_parts true sources named e = (refl, cc)
settled_parts false sources named e = absurd (open_not_settled sources e)

pub settled_by :
    (b : Bool) (sources : ℕ) (answer : Option ℕ) → cond b answer None ≡ Some sources → (b ≡ true) × (answer ≡ Some sources)
settled_by true sources answer e = (refl, e)
settled_by false sources answer e = absurd (open_not_settled sources e)

pub settled_either :
    (b : Bool) (sources : ℕ) (one other : Option ℕ) → cond b one other ≡ Some sources
    → ((b ≡ true) × (one ≡ Some sources)) ⊎ ((b ≡ false) × (other ≡ Some sources))
settled_either true sources one other e = inl (refl, e)
settled_either false sources one other e = inr (refl, e)

-- a board of the rule's n, or of another

pub group_settled :
    (n : ℕ) (board : Board) (sources : ℕ) (answer : Option ℕ) → of_group n board answer ≡ Some sources
    → (board.n ≡ n) × (answer ≡ Some sources)
group_settled n board sources answer e =
    let both = settled_by (board.n == n) sources answer e in
    (eqb-true board.n n both.0, both.1)

pub group_same :
    (n : ℕ) (board : Board) (answer : Option ℕ) → (board.n == n) ≡ true → of_group n board answer ≡ answer
group_same n board answer e = ap (λ b. cond b answer None) e

pub group_other :
    (n : ℕ) (board : Board) (answer : Option ℕ) → (board.n ≢ n) → of_group n board answer ≡ None
group_other n board answer apart = ap (λ b. cond b answer None) (ne_eqb board.n n apart)
