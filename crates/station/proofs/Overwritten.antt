-- Memory whose places are written one after another. Assumes nothing.
use Rattle.std.proofs.Common.{◌≡◌, ℕ, ◌+◌, ◌<◌, ◌≤◌, List, [], ◌∷◌, ◌++◌, length, get_or, take, drop, set, sym, ap, ◌∙◌, ap₂, arith}
use Rattle.std.proofs.lemmas.List.{append_assoc, drop_more, length-append, length-drop, length_push, length-take-le, set_at, take_at}
use Rattle.station.specs.Memory.{overwritten}

module _ {Place : Type 0} (memory : List Place) (at : ℕ) where
  -- one place more
  pub overwritten_more :
      (written : List Place) (x : Place) → at + length written < length memory
      → set (overwritten memory at written) (at + length written) x ≡ overwritten memory at (written ++ x ∷ [])
  overwritten_more written x room =
      let past = at + length written in
      let next = get_or memory past x in
      let front = length-append (take at memory) written ∙ ap (λ k. k + length written) (length-take-le at memory (omega arith)) in
      ap (λ rest. set (take at memory ++ (written ++ rest)) past x) (drop_more memory past x room)
      ∙ ap (λ whole. set whole past x) (sym (append_assoc (take at memory) written (next ∷ drop (past + 1) memory)))
      ∙ set_at (take at memory ++ written) next (drop (past + 1) memory) x past front
      ∙ append_assoc (take at memory) written (x ∷ drop (past + 1) memory)
      ∙ ap (λ rest. take at memory ++ rest) (sym (append_assoc written (x ∷ []) (drop (past + 1) memory)))
      ∙ ap (λ k. take at memory ++ ((written ++ x ∷ []) ++ drop k memory)) (further (length (written ++ x ∷ [])) (length_push written x))
    where
      further : (long : ℕ) → long ≡ length written + 1 → at + length written + 1 ≡ at + long
      further long e = omega arith

  -- what was written stands after the places before
  pub overwritten_through :
      (written : List Place) (count : ℕ) → length written ≡ count → at ≤ length memory
      → take (at + count) (overwritten memory at written) ≡ take at memory ++ written
  overwritten_through written count long fits =
      ap (take (at + count)) (sym (append_assoc (take at memory) written (drop (at + length written) memory)))
      ∙ take_at (take at memory ++ written) (drop (at + length written) memory) (at + count)
      (length-append (take at memory) written ∙ ap₂ (λ a b. a + b) (length-take-le at memory fits) long)

  pub overwritten_long :
      (written : List Place) → at + length written ≤ length memory → length (overwritten memory at written) ≡ length memory
  overwritten_long written fits =
      let front = length-take-le at memory (omega arith) in
      let parts = length-append (take at memory) (written ++ drop (at + length written) memory) in
      let rest = length-append written (drop (at + length written) memory) in
      let last = length-drop (at + length written) memory in
      omega arith
