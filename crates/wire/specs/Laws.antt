-- The laws of the block: filling and reading are inverse, and a damaged block is refused. Assumes nothing.
use Rattle.std.specs.Prelude.{◌≡◌, ℕ, ◌<◌, List, length, Ok, Err, Result, ◌≢◌, slice_set}
use Rattle.std.specs.List.{swap}
use Rattle.wire.specs.declared.fault.Fault.{Fault}
use Rattle.wire.specs.declared.fault.Fault.TheVariants.{Check}
use Rattle.wire.specs.declared.message.Message.{Message}
use Rattle.wire.specs.Words.{byte}
use Rattle.wire.specs.Format.{Contents, filled, filling, reading}

-- a filling that was not refused leaves a block that reads as its n, message and note
abbrev pub ReadsBack : ℕ → Message → List ℕ → Result (Unit {0}) Fault → List ℕ → Type 0
ReadsBack n message note answer block =
    answer ≡ Ok tt → reading block ≡ Ok (record { n = n; message = message; note = note })

-- a block that reads well is what any block becomes that is filled with what it reads as
abbrev pub FillsAgain : List ℕ → Type 0
FillsAgain block =
    (contents : Contents) (other : List ℕ) → reading block ≡ Ok contents → length other ≡ 512
    → (filling contents.n contents.message contents.note other ≡ Ok tt)
    × (filled contents.n contents.message contents.note other ≡ block)

-- a block that reads well is refused once any one byte is altered
abbrev pub AlteredIsRefused : List ℕ → Type 0
AlteredIsRefused block =
    (contents : Contents) (place value : ℕ) → reading block ≡ Ok contents
    → place < 512 → (byte block place ≢ value) → reading (slice_set block place value) ≡ Err Check

-- a block that reads well is refused once two unequal bytes below place 508 are exchanged
abbrev pub ExchangedIsRefused : List ℕ → Type 0
ExchangedIsRefused block =
    (contents : Contents) (i j : ℕ) → reading block ≡ Ok contents
    → i < 508 → j < 508 → (byte block i ≢ byte block j) → reading (swap block i j) ≡ Err Check
