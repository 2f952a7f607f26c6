-- How reading goes on after the check. Assumes nothing.
use Rattle.std.proofs.Common.{◌≡◌, ℕ, ◌≤◌, true, false, List, length, Ok, Err, ap, arith}
use Rattle.wire.specs.declared.fault.Fault.{Fault}
use Rattle.wire.specs.declared.fault.Fault.TheVariants.{Check, Layout}
use Rattle.std.specs.List.{between}
use Rattle.std.proofs.lemmas.Bool.Decides.{nat_tests}
use Rattle.wire.specs.declared.message.Message.{Message}
use Rattle.wire.specs.Words.{byte, four_bytes, all_within}
use Rattle.wire.specs.Format.{Contents, check_sum, contents_in, fitting, message_in, note_end, read_layout, reading, verified}

-- a block of the right length is verified or refused by its check

pub verified-good :
    (block : List ℕ) → length block ≡ 512 → four_bytes block 508 ≡ check_sum block → Ok tt ≡ verified block
verified-good block long holds = grind (arith, nat_tests)

pub verified-refused :
    (block : List ℕ) → length block ≡ 512 → (four_bytes block 508 ≡ check_sum block → ⊥) → Err Check ≡ verified block
verified-refused block long fails = grind (arith, nat_tests)

-- a block that is not verified is refused as it is there
pub reading-refused : (block : List ℕ) (fault : Fault) → verified block ≡ Err fault → reading block ≡ Err fault
unfolding reading
reading-refused block fault e = grind (arith, nat_tests)

-- a verified block is read by its layout
pub reading-verified : (block : List ℕ) → verified block ≡ Ok tt → reading block ≡ read_layout block
unfolding reading
reading-verified block e = grind (arith, nat_tests)

-- The layout, test by test: the kind, the note's length, the fields and the note, the spare bytes.

pub layout_unfit :
    (block : List ℕ) (message : Message) → message ≡ message_in block
    → false ≡ fitting (byte block 1) message (between 47 (note_end block) block)
    → Err Layout ≡ read_layout block
unfolding read_layout
layout_unfit block message stands unfit =
    let at : false ≡ fitting (byte block 1) (message_in block) (between 47 (note_end block) block) = rw stands at unfit in
    grind (arith, nat_tests)

pub layout_unspare :
    (block : List ℕ) → false ≡ all_within 0 0 (between (note_end block) 508 block) → Err Layout ≡ read_layout block
unfolding read_layout
layout_unspare block unspare = grind (arith, nat_tests)

pub layout_good :
    (block : List ℕ) (message : Message) → message ≡ message_in block
    → byte block 0 ≡ 1 → byte block 46 ≤ 64
    → true ≡ fitting (byte block 1) message (between 47 (note_end block) block)
    → true ≡ all_within 0 0 (between (note_end block) 508 block)
    → Ok (record { n = byte block 1; message = message; note = between 47 (note_end block) block }) ≡ read_layout block
unfolding read_layout
layout_good block message stands kind short fit spare = grind (arith, nat_tests)

-- What is known of a block that reads well.

pub record ReadsWell (block : List ℕ) (contents : Contents) : Type 0 where
  pub long : length block ≡ 512
  pub holds : four_bytes block 508 ≡ check_sum block
  pub kind : byte block 0 ≡ 1
  pub short : byte block 46 ≤ 64
  pub fit : fitting (byte block 1) (message_in block) (between 47 (note_end block) block) ≡ true
  pub spare : all_within 0 0 (between (note_end block) 508 block) ≡ true
  pub says : contents ≡ contents_in block

pub reads-well : (block : List ℕ) (contents : Contents) → reading block ≡ Ok contents → ReadsWell block contents
unfolding reading read_layout
reads-well block contents e =
    record {
      long = grind (arith, nat_tests);
      holds = grind (arith, nat_tests);
      kind = grind (arith, nat_tests);
      short = grind (arith, nat_tests);
      fit = grind (arith, nat_tests);
      spare = grind (arith, nat_tests);
      says = grind (arith, nat_tests);
    }

pub well-reads : (block : List ℕ) (contents : Contents) → ReadsWell block contents → reading block ≡ Ok contents
unfolding reading read_layout
well-reads block contents well = grind (arith, nat_tests)

-- What is known of n, a message and a note that fit a block.

pub record FitsBlock (n : ℕ) (message : Message) (note : List ℕ) : Type 0 where
  pub group : n ≤ 16
  pub first : 1 ≤ message.station
  pub member : message.station ≤ n
  pub numbered : message.number ≤ 4096
  pub classed : message.class ≤ 3
  pub counted : all_within 0 4096 message.after ≡ true
  pub short : length note ≤ 64
  pub printed : all_within 32 126 note ≡ true

pub fits-block : (n : ℕ) (message : Message) (note : List ℕ) → fitting n message note ≡ true → FitsBlock n message note
fits-block n message note fit =
    record {
      group = grind (arith, nat_tests);
      first = grind (arith, nat_tests);
      member = grind (arith, nat_tests);
      numbered = grind (arith, nat_tests);
      classed = grind (arith, nat_tests);
      counted = grind (arith, nat_tests);
      short = grind (arith, nat_tests);
      printed = grind (arith, nat_tests);
    }

-- the station of a block that reads well is one of its group
pub reads-member :
    (block : List ℕ) (contents : Contents) → reading block ≡ Ok contents
    → (1 ≤ contents.message.station) × (contents.message.station ≤ contents.n)
reads-member block contents e =
    let well = reads-well block contents e in
    let fits = fits-block (byte block 1) (message_in block) (between 47 (note_end block) block) well.fit in
    let station = ap (λ c. c.message.station) well.says in
    let n = ap (λ c. c.n) well.says in
    (omega (arith, fits.first), omega (arith, fits.member))
