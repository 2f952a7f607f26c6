-- Orders carried out on a book, whatever it holds: by its step. Assumes nothing.
use Rattle.std.specs.Prelude.{◌≡◌, ℕ, List, [], ◌∷◌, fold}

module _ {Held Reply : Type 0} where
  -- what is held after a list of orders, carried out one after another
  abbrev pub held_after : (Held → List ℕ → Reply × Held) → Held → List (List ℕ) → Held
  held_after step held orders = fold (λ before order. (step before order).1) held orders

  -- their replies, in their order
  abbrev pub replies : (Held → List ℕ → Reply × Held) → Held → List (List ℕ) → List Reply
  replies step held [] = []
  replies step held (order ∷ orders) = (step held order).0 ∷ replies step (step held order).1 orders

  -- only one reply alters what is held
  abbrev pub OnlyAlters : (Reply → Type 0) → (Held → List ℕ → Reply × Held) → Type 0
  OnlyAlters Done step =
      (held : Held) (order : List ℕ) → (Done (step held order).0 → ⊥) → (step held order).1 ≡ held
