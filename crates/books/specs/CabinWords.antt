-- The words for people of the cabin book: replies and slots. Assumes nothing.
use Rattle.std.specs.Prelude.{ℕ, List, ◌++◌, codes}
use Rattle.std.specs.Fmt.{decimal}
use Rattle.books.specs.declared.cabin.CabinReply.{CabinReply}
use Rattle.books.specs.declared.cabin.CabinReply.TheVariants.{Done, Unreadable, OtherState, OtherParty, OtherCabin, TooSmall}
use Rattle.books.specs.declared.cabin.Slot.{Slot}
use Rattle.books.specs.declared.cabin.Slot.TheVariants.{Free, Booked, Assigned, Ridden}

-- the number of a reply
abbrev pub reply_number : CabinReply → ℕ
reply_number Done = 0
reply_number Unreadable = 1
reply_number OtherState = 2
reply_number OtherParty = 3
reply_number OtherCabin = 4
reply_number TooSmall = 5

-- the word of a reply
abbrev pub reply_word : CabinReply → List ℕ
reply_word Done = codes "done"
reply_word Unreadable = codes "unreadable"
reply_word OtherState = codes "slot in another state"
reply_word OtherParty = codes "other party"
reply_word OtherCabin = codes "cabin not home, or another one"
reply_word TooSmall = codes "cabin too small"

-- what a slot is, as in a sentence after 'is'
abbrev pub slot_words : Slot → List ℕ
slot_words Free = codes "free"
slot_words (Booked party seats) =
    codes "booked for party " ++ (decimal party ++ (codes ", " ++ (decimal seats ++ codes " seats")))
slot_words (Assigned party seats cabin) =
    codes "assigned to party "
    ++ (decimal party ++ (codes ", " ++ (decimal seats ++ (codes " seats, cabin " ++ decimal cabin))))
slot_words Ridden = codes "ridden"
