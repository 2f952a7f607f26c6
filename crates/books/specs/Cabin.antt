-- The cabin book: what an order does to the slots and cabins of a lift. Assumes nothing.
use Rattle.std.specs.Prelude.{ℕ, ◌-◌, max, Bool, true, false, cond, ◌&&◌, List, [], ◌++◌, fold, length, replicate, Some, None, Option, Ok, Err, Result, ◌==◌, nat_le, slice_index_or, slice_set}
use Rattle.wire.specs.Words.{byte, two_bytes}
use Rattle.books.specs.declared.cabin.Cabin.{Cabin}
use Rattle.books.specs.declared.cabin.CabinBook.{CabinBook}
use Rattle.books.specs.declared.cabin.CabinCode.{CabinCode}
use Rattle.books.specs.declared.cabin.CabinCode.TheVariants.{Book, Cancel, Assign, Ride}
use Rattle.books.specs.declared.cabin.CabinReply.{CabinReply}
use Rattle.books.specs.declared.cabin.CabinReply.TheVariants.{Done, Unreadable, OtherState, OtherParty, OtherCabin, TooSmall}
use Rattle.books.specs.declared.cabin.Slot.{Slot}
use Rattle.books.specs.declared.cabin.Slot.TheVariants.{Free, Booked, Assigned, Ridden}

-- An order: code, day, departure, cabin, party in two bytes, seats, and a 0.

abbrev pub code : List ℕ → ℕ
code order = byte order 0

abbrev pub day : List ℕ → ℕ
day order = byte order 1

abbrev pub departure : List ℕ → ℕ
departure order = byte order 2

abbrev pub cabin : List ℕ → ℕ
cabin order = byte order 3

abbrev pub party : List ℕ → ℕ
party order = two_bytes order 4

abbrev pub seats : List ℕ → ℕ
seats order = byte order 6

-- What a book holds: the slot of a day and a departure, the seats of a cabin, whether it is home.
-- Days, departures and cabins count from 1.

abbrev pub slot_at : CabinBook → ℕ → ℕ → Slot
slot_at book d p = slice_index_or (slice_index_or book.slots (d - 1) []) (p - 1) Free

-- what stands in place of a cabin that there is not
abbrev pub no_cabin : Cabin
no_cabin = record { seats = 0; home = false }

abbrev pub cabin_at : CabinBook → ℕ → Cabin
cabin_at book c = slice_index_or book.cabins (c - 1) no_cabin

abbrev pub seats_of : CabinBook → ℕ → ℕ
seats_of book c = (cabin_at book c).seats

abbrev pub at_home : CabinBook → ℕ → Bool
at_home book c = (cabin_at book c).home

-- whether there is a slot of this day and departure
abbrev pub is_slot : ℕ → ℕ → Bool
is_slot d p = nat_le 1 d && (nat_le d 14 && (nat_le 1 p && nat_le p 32))

-- as a person asks: nothing where there is no such slot or cabin
abbrev pub slot_told : CabinBook → ℕ → ℕ → Option Slot
slot_told book d p = cond (is_slot d p) (Some (slot_at book d p)) None

abbrev pub home_told : CabinBook → ℕ → Option Bool
home_told book c = cond (nat_le 1 c && nat_le c (length book.cabins)) (Some (at_home book c)) None

-- a cabin that is home, by its seats
abbrev pub home_with : ℕ → Cabin
home_with seats = record { seats = seats; home = true }

-- at the start all slots are free and all cabins home; cabins 1 to 12 have 8 seats, 13 to 20 have 16, 21 to 24 have 24
abbrev pub at_start : CabinBook
at_start =
    record {
      cabins = replicate 12 (home_with 8) ++ (replicate 8 (home_with 16) ++ replicate 4 (home_with 24));
      slots = replicate 14 (replicate 32 Free);
    }

-- the most seats that any cabin has
abbrev pub most : List Cabin → ℕ
most cabins = fold (λ so_far (c : Cabin). max so_far c.seats) 0 cabins

-- Which orders can be read: each field in its range where the code names it, and 0 where not.

abbrev pub books_well : CabinBook → List ℕ → Bool
books_well book order =
    (cabin order == 0) && (nat_le 1 (party order) && (nat_le 1 (seats order) && nat_le (seats order) (most book.cabins)))

abbrev pub cancels_well : CabinBook → List ℕ → Bool
cancels_well book order = cabin order == 0 && (nat_le 1 (party order) && seats order == 0)

abbrev pub names_cabin_well : CabinBook → List ℕ → Bool
names_cabin_well book order =
    nat_le 1 (cabin order) && (nat_le (cabin order) (length book.cabins) && (party order == 0 && seats order == 0))

abbrev pub named_well : CabinBook → List ℕ → Bool
named_well book order =
    cond (code order == 1) (books_well book order)
    (cond (code order == 2) (cancels_well book order) (names_cabin_well book order))

-- what a code asks for, if it asks for anything
abbrev pub cabin_code : ℕ → Result CabinCode CabinReply
cabin_code code =
    cond (code == 1) (Ok Book) (cond (code == 2) (Ok Cancel)
    (cond (code == 3) (Ok Assign) (cond (code == 4) (Ok Ride) (Err Unreadable))))

-- the highest order code
abbrev pub cabin_top : ℕ
cabin_top = 4

abbrev pub cabin_readable : CabinBook → List ℕ → Bool
cabin_readable book order =
    nat_le 1 (code order) && (nat_le (code order) cabin_top && (is_slot (day order) (departure order)
    && (byte order 7 == 0 && named_well book order)))

-- What an order leaves: one slot changed, and with it one cabin sent out or brought home.

abbrev pub with_slot : CabinBook → List ℕ → Slot → CabinBook
with_slot book order slot =
    record {
      cabins = book.cabins;
      slots = slice_set book.slots (day order - 1) (slice_set (slice_index_or book.slots (day order - 1) []) (departure order - 1) slot);
    }

abbrev pub with_cabin : CabinBook → List ℕ → Slot → Bool → CabinBook
with_cabin book order slot home =
    record {
      cabins = slice_set book.cabins (cabin order - 1) (record { seats = seats_of book (cabin order); home = home });
      slots = slice_set book.slots (day order - 1) (slice_set (slice_index_or book.slots (day order - 1) []) (departure order - 1) slot);
    }

-- a free slot can be booked
abbrev pub on_free : CabinBook → List ℕ → CabinReply × CabinBook
on_free book order =
    cond (code order == 1) (Done, with_slot book order (Booked (party order) (seats order))) (OtherState, book)

-- a booked slot can be cancelled by its party, or assigned a cabin that is home and large enough
abbrev pub on_booked : CabinBook → List ℕ → ℕ → ℕ → CabinReply × CabinBook
on_booked book order holder wanted =
    cond (code order == 2)
    (cond (holder == party order) (Done, with_slot book order Free) (OtherParty, book))
    (cond (code order == 3)
    (cond (at_home book (cabin order))
    (cond (nat_le wanted (seats_of book (cabin order)))
    (Done, with_cabin book order (Assigned holder wanted (cabin order)) false)
    (TooSmall, book))
    (OtherCabin, book))
    (OtherState, book))

-- an assigned slot is ridden when its cabin comes home
abbrev pub on_assigned : CabinBook → List ℕ → ℕ → CabinReply × CabinBook
on_assigned book order given =
    cond (code order == 4)
    (cond (given == cabin order) (Done, with_cabin book order Ridden true) (OtherCabin, book))
    (OtherState, book)

abbrev pub on_slot : CabinBook → List ℕ → Slot → CabinReply × CabinBook
on_slot book order Free = on_free book order
on_slot book order (Booked holder wanted) = on_booked book order holder wanted
on_slot book order (Assigned holder wanted given) = on_assigned book order given
on_slot book order Ridden = (OtherState, book)

-- what an order that can be read does to the slot that it names
abbrev pub on_its_slot : CabinBook → List ℕ → CabinReply × CabinBook
on_its_slot book order = on_slot book order (slot_at book (day order) (departure order))

abbrev pub cabin_step : CabinBook → List ℕ → CabinReply × CabinBook
cabin_step book order =
    cond (cabin_readable book order)
    (on_its_slot book order)
    (Unreadable, book)
