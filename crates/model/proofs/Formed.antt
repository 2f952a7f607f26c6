-- What a well-formed message says of itself, fact by fact. Assumes nothing.
use Rattle.std.proofs.Common.{◌≡◌, ℕ, zero, suc, ◌-◌, ◌≤◌, true, get_or, ap, arith}
use Rattle.std.proofs.lemmas.Grind.{common_steps}
use Rattle.std.proofs.lemmas.Bool.Decides.{nat_tests}
use Rattle.wire.specs.Messages.{count, counts_fit, well_formed}
use Rattle.wire.specs.declared.message.Message.{Message}
use Rattle.model.specs.Following.{count_of}

-- the count for a station, in the words of the block
pub count_same : (message : Message) (station : ℕ) → 1 ≤ station → count_of message station ≡ count message station
count_same message zero some = absurd (omega arith)
count_same message (suc place) some = ap (λ at. get_or message.after at 0) (lower place)
  where
    lower : (k : ℕ) → k ≡ suc k - 1
    lower k = omega arith

-- the facts of a well-formed message
pub record Formed (n : ℕ) (message : Message) : Type 0 where
  pub group : n ≤ 16
  pub from_one : 1 ≤ message.station
  pub member : message.station ≤ n
  pub numbered : 1 ≤ message.number
  pub few : message.number ≤ 4096
  pub class : message.class ≤ 3
  pub own : count_of message message.station ≡ message.number - 1
  pub fit : counts_fit n message.after ≡ true

pub formed : (n : ℕ) (message : Message) → well_formed n message ≡ true → Formed n message
formed n message well = grind (arith, common_steps, count_same, nat_tests)
