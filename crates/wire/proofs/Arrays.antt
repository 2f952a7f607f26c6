-- Arrays made by calls of a closure that keeps its state. Assumes nothing.
use Rattle.std.proofs.Common.{◌≡◌, ℕ, zero, suc, ◌+◌, ◌<◌, ◌≤◌, List, length, get_or, map, sym, refl, ap, ◌∙◌, subst, inl, inr, arith}
use Rattle.std.proofs.lemmas.Bool.{cases_eq}
use Rattle.std.proofs.lemmas.List.{ext_get_or, get_or-map, length-map}
use Rattle.std.proofs.lemmas.List.FromFn.{fill_by_all}
use Rattle.std.specs.Array.{IsFromFnResult, IsFromFnResultFrom, IsMapOf, MapsFrom}
use Rattle.std.specs.Fn.{Called}
use Rattle.std.specs.List.{range_with_len}
use denote.Param.Members.{Mut}

from_fn_at :
    {F B : Type 0} (g : Mut F (ℕ × Unit {0}) B) (f : F) (h : ℕ → B) (ys : List B) (d : B)
    → ((i : ℕ) (y : B) (q : F) → Called g f (i, tt) y q → (q ≡ f) × (y ≡ h i))
    → (p : F) → p ≡ f → (i n : ℕ) → IsFromFnResultFrom g p ys i n
    → (k : ℕ) → i ≤ k → k < i + n → get_or ys k d ≡ h k
from_fn_at g f h ys d gives p same i zero all k low high = absurd (omega arith)
from_fn_at g f h ys d gives p same i (suc n) all k low high =
    let said = gives i all.1 all.0 (subst (λ s. Called g s (i, tt) all.1 all.0) same all.3) in
    elim (cases_eq i k) [
      | inl here ↦ ap (λ j. get_or ys j d) (sym here) ∙ all.2.1 d ∙ said.1 ∙ ap h here
      | inr other ↦ from_fn_at g f h ys d gives all.0 said.0 (i + 1) n all.4 k (omega arith) (omega arith)
    ]

-- `array::from_fn`, where a call gives h of its index
pub from_fn_is :
    {F B : Type 0} {g : Mut F (ℕ × Unit {0}) B} {f : F} {ys : List B} (h : ℕ → B) (n : ℕ) (d : B)
    → IsFromFnResult g f ys n
    → ((i : ℕ) (y : B) (q : F) → Called g f (i, tt) y q → (q ≡ f) × (y ≡ h i))
    → ys ≡ map h (range_with_len 0 n)
from_fn_is {F} {B} {g} {f} {ys} h n d all gives =
    fill_by_all h ys n d all.long
    (λ k inside. from_fn_at g f h ys d gives f refl 0 n all.each k (omega arith) (omega arith))

mapped_at :
    {F A B : Type 0} (g : Mut F (A × Unit {0}) B) (f : F) (h : A → B) (xs : List A) (ys : List B) (d : A) (e : B)
    → ((x : A) (y : B) (q : F) → Called g f (x, tt) y q → (q ≡ f) × (y ≡ h x))
    → (p : F) → p ≡ f → (i n : ℕ) → MapsFrom g p xs ys i n
    → (k : ℕ) → i ≤ k → k < i + n → get_or ys k e ≡ h (get_or xs k d)
mapped_at g f h xs ys d e gives p same i zero all k low high = absurd (omega arith)
mapped_at g f h xs ys d e gives p same i (suc n) all k low high =
    let said = gives all.1 all.2 all.0 (subst (λ s. Called g s (all.1, tt) all.2 all.0) same all.5) in
    elim (cases_eq i k) [
      | inl here ↦
          ap (λ j. get_or ys j e) (sym here) ∙ all.4.1 e ∙ said.1
          ∙ ap h (sym (all.3.1 d) ∙ ap (λ j. get_or xs j d) here)
      | inr other ↦ mapped_at g f h xs ys d e gives all.0 said.0 (i + 1) n all.6 k (omega arith) (omega arith)
    ]

-- an array's `map`, where a call gives h of the element
pub mapped_is :
    {F A B : Type 0} {g : Mut F (A × Unit {0}) B} {f : F} {xs : List A} {ys : List B} (h : A → B) (n : ℕ) (d : A) (e : B)
    → length xs ≡ n → IsMapOf g f xs ys n
    → ((x : A) (y : B) (q : F) → Called g f (x, tt) y q → (q ≡ f) × (y ≡ h x))
    → ys ≡ map h xs
mapped_is {F} {A} {B} {g} {f} {xs} {ys} h n d e long all gives =
    ext_get_or e ys (map h xs) (all.long ∙ sym long ∙ sym (length-map xs h))
    (λ k inside. mapped_at g f h xs ys d e gives f refl 0 n all.each k (omega arith) (omega (arith, all.long))
    ∙ sym (get_or-map h xs k d e (omega (arith, all.long))))
