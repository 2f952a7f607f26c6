use Rattle.std.proofs.Common.{◌≡◌, ◌<◌, ℕ, cond, ltb, get_or, length}
use Rattle.books.specs.declared.cabin.TheConstants.{SEATS}
use Rattle.books.specs.Cabin.{home_with, no_cabin}
use Rattle.books.proofs.cabin.CabinBook.new.Given as goal

-- each cabin is home; those before the place have their seats
abbrev pub invariant-loop-place : goal.invariant-loop-place
invariant-loop-place l =
    (length l.cabin-items ≡ 24)
    × ((k : ℕ) → k < 24 → get_or l.cabin-items k no_cabin ≡ home_with (cond (ltb k l.place) (get_or SEATS k 0) 0))
