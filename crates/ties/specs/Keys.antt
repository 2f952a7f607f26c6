-- Orders by a key: of two different stations of the group, the one with the lower key goes first. Assumes nothing.
use Rattle.std.specs.Prelude.{◌≡◌, ◌≢◌, ℕ, ◌≤◌, ◌&&◌}
use Rattle.std.specs.Ordering.{is_lt}
use Rattle.std.specs.declared.cmp.Ordering.{Ordering}
use Rattle.std.specs.declared.cmp.Ordering.TheVariants.{Equal}
use Rattle.ties.specs.declared.tie.Head.{Head}
use Rattle.ties.specs.Ties.{Apart, Member, TieMeaning, asked}

-- an order, by the size of its group, and the keys of heads in a wave
pub record IsByKey {Value : Type 0} (cmp : Value → Value → Ordering) (order : ℕ → TieMeaning) (key : ℕ → ℕ → Head → Value) : Type 0 where
  pub size : (n : ℕ) → (order n).n ≡ n
  -- where there is something to answer, the lower key goes first
  pub answer :
      (n wave : ℕ) (a b : Head)
      → (order n).before wave a b ≡ (asked n wave a b && is_lt (cmp (key n wave a) (key n wave b)))
  -- different stations of the group have different keys
  pub apart :
      (n wave : ℕ) (a b : Head) → 1 ≤ wave → Member n a → Member n b → Apart a b
      → cmp (key n wave a) (key n wave b) ≢ Equal
