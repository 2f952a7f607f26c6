use Rattle.std.proofs.Common.{◌≡◌, take}
use Rattle.books.specs.Books.{held_after}
use Rattle.books.proofs.book.post_all.Given as goal

-- what the orders so far lead to
abbrev pub invariant-loop-order : goal.invariant-loop-order
invariant-loop-order g l =
    g.B.Book.holds l.book ≡ held_after g.B.Book.step (g.B.Book.holds l.initial.book) (take l.order-index l.orders)
