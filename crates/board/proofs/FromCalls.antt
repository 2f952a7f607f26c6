-- What a set is that is made of sixteen answers of a closure. Assumes nothing.
use Rattle.std.proofs.Common.{◌≡◌, ℕ, Bool, false, List, ap, ◌∙◌, arith}
use Rattle.std.proofs.lemmas.List.FromFn.{get_or-map-range_with_len}
use Rattle.std.specs.Prelude.{slice_index_or}
use Rattle.std.specs.Fn.{Called, Mut}
use Rattle.std.specs.Array.{IsFromFnResult}
use Rattle.wire.proofs.Arrays.{from_fn_is}
use Rattle.board.specs.Sets.{set_of}
use Rattle.board.proofs.Places.{mask-same}

-- each call answers by the place alone, and leaves the closure as it was
abbrev pub AnswersByPlace : {F B : Type 0} → Mut F (ℕ × Unit {0}) B → F → (ℕ → B) → Type 0
AnswersByPlace {F} {B} g f answer =
    (place : ℕ) (given : B) (after : F) → Called g f (place, tt) given after → (after ≡ f) × (given ≡ answer place)

-- the set of the places at which a closure answered true
pub set_of-calls :
    {F : Type 0} (g : Mut F (ℕ × Unit {0}) Bool) (f : F) (ys : List Bool) (answer : ℕ → Bool) → IsFromFnResult g f ys 16
    → AnswersByPlace g f answer → set_of (λ place. slice_index_or ys place false) ≡ set_of answer
set_of-calls g f ys answer made by_place =
    mask-same (λ place. slice_index_or ys place false) answer 16
    (λ place below.
    ap (λ zs. slice_index_or zs place false) (from_fn_is answer 16 false made by_place)
    ∙ get_or-map-range_with_len answer 0 16 place place false below (omega arith))
