-- The 512-byte block: what its bytes say, and the block of a message. Assumes nothing.
use Rattle.std.specs.Prelude.{ℕ, ◌+◌, ◌-◌, ◌*◌, Bool, cond, ◌&&◌, List, ◌∷◌, ◌++◌, map, length, replicate, Ok, Err, Result, ◌==◌, nat_le}
use Rattle.std.specs.List.{range_with_len, flat_map, between}
use Rattle.wire.specs.declared.fault.Fault.{Fault}
use Rattle.wire.specs.declared.fault.Fault.TheVariants.{Length, Check, Layout, Setting}
use Rattle.wire.specs.declared.message.Message.{Message}
use Rattle.wire.specs.Words.{byte, two_bytes, four_bytes, in_two, in_four, all_within, sum_below}
use Rattle.wire.specs.Messages.{well_formed}

-- The check: the sum of (place + 1) × byte over places 0 to 507, held by the last four bytes.

abbrev pub weighted : List ℕ → ℕ → ℕ
weighted block place = (place + 1) * byte block place

unfoldable pub check_sum : List ℕ → ℕ
check_sum block = sum_below 508 (weighted block)

abbrev pub check_holds : List ℕ → Bool
check_holds block = four_bytes block 508 == check_sum block

-- The layout: where each field stands.

-- what a block that reads well says
pub record Contents : Type 0 where
  pub n : ℕ
  pub message : Message
  pub note : List ℕ

-- the sixteen counts of the after-list, two bytes each
unfoldable pub counts_in : List ℕ → List ℕ
counts_in block = map (λ j. two_bytes block (6 + 2 * j)) (range_with_len 0 16)

abbrev pub message_in : List ℕ → Message
message_in block = record {
  station = byte block 2;
  number = two_bytes block 4;
  after = counts_in block;
  class = byte block 3;
  order = between 38 46 block;
}

abbrev pub note_end : List ℕ → ℕ
note_end block = 47 + byte block 46

abbrev pub contents_in : List ℕ → Contents
contents_in block = record {
  n = byte block 1;
  message = message_in block;
  note = between 47 (note_end block) block;
}

-- what may stand as a note: at most 64 characters from 32 to 126
abbrev pub noted : List ℕ → Bool
noted note = nat_le (length note) 64 && all_within 32 126 note

-- what may stand in a block: a message that is well formed for n, and at most 64 characters from 32 to 126
abbrev pub fitting : ℕ → Message → List ℕ → Bool
fitting n message note = well_formed n message && (nat_le (length note) 64 && all_within 32 126 note)

-- the kind is 1, the contents fit, and all bytes between the note and the check are 0
abbrev pub laid_out : List ℕ → Bool
laid_out block =
    (byte block 0 == 1) && (nat_le (byte block 46) 64
    && (fitting (byte block 1) (message_in block) (between 47 (note_end block) block)
    && all_within 0 0 (between (note_end block) 508 block)))

-- What reading answers: the length, then the check, then the layout may be refused.

abbrev pub verified : List ℕ → Result (Unit {0}) Fault
verified block =
    cond (length block == 512) (cond (check_holds block) (Ok tt) (Err Check)) (Err Length)

unfoldable pub read_layout : List ℕ → Result Contents Fault
read_layout block = cond (laid_out block) (Ok (contents_in block)) (Err Layout)

unfoldable pub reading : List ℕ → Result Contents Fault
reading block =
    cond (length block == 512) (cond (check_holds block) (read_layout block) (Err Check)) (Err Length)

-- The block of n, a message and a note.

-- the 508 bytes that the check is taken over
unfoldable pub checked_part : ℕ → Message → List ℕ → List ℕ
checked_part n message note =
    1 ∷ n ∷ message.station ∷ message.class ∷ (in_two message.number
    ++ (flat_map in_two message.after
    ++ (message.order
    ++ (length note ∷ (note ++ replicate (461 - length note) 0)))))

unfoldable pub block_of : ℕ → Message → List ℕ → List ℕ
block_of n message note =
    checked_part n message note ++ in_four (check_sum (checked_part n message note))

-- What filling answers, and what the lent block then holds: at a refusal, what it held.

abbrev pub filling : ℕ → Message → List ℕ → List ℕ → Result (Unit {0}) Fault
filling n message note block =
    cond (length block == 512) (cond (fitting n message note) (Ok tt) (Err Layout)) (Err Length)

abbrev pub filled : ℕ → Message → List ℕ → List ℕ → List ℕ
filled n message note block =
    cond (length block == 512) (cond (fitting n message note) (block_of n message note) block) block

-- The label: the note, or where it is empty the station's twelve bytes of the name sheet.

abbrev pub label_part : Contents → List ℕ → List ℕ
label_part contents sheet =
    cond (length contents.note == 0)
    (between (12 * contents.message.station - 12) (12 * contents.message.station) sheet)
    contents.note

-- refused as reading is, then for a sheet that has not twelve bytes for each station
abbrev pub label_from : Result Contents Fault → List ℕ → Result (List ℕ) Fault
label_from (Ok contents) sheet =
    cond (length sheet == 12 * contents.n) (Ok (label_part contents sheet)) (Err Setting)
label_from (Err fault) sheet = Err fault

abbrev pub label_of : List ℕ → List ℕ → Result (List ℕ) Fault
label_of block sheet = label_from (reading block) sheet
