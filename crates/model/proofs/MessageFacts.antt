-- What holds of messages that are alike, and of messages that are well formed for a group. Assumes nothing.
use Rattle.std.proofs.Common.{◌≡◌, ℕ, zero, suc, ◌+◌, ◌-◌, ◌<◌, ◌≤◌, true, ◌&&◌, leb, List, length, get_or, drop, Ok, Decides, sym, refl, ap, ◌∙◌, ⊎_elim, arith, rules}
use Rattle.std.proofs.lemmas.Grind.{common_steps}
use Rattle.std.specs.List.{between}
use Rattle.std.proofs.lemmas.Slice.Eq.{compares_Decides}
use Rattle.std.proofs.lemmas.List.{get_or-drop, get_or_past}
use Rattle.std.proofs.lemmas.Bool.{and_parts, cases_lt}
use Rattle.std.proofs.lemmas.Bool.Decides.{Decides-and, Decides-eqb, Decides-like, nat_tests}
use Rattle.wire.specs.Format.{Contents, message_in, note_end, reading}
use Rattle.wire.specs.Messages.{count, well_formed}
use Rattle.wire.specs.Words.{all_within, byte}
use Rattle.wire.specs.declared.message.Message.{Message}
use Rattle.wire.proofs.Ranges.{within_at}
use Rattle.wire.proofs.Verdicts.{reads-well}
use Rattle.model.specs.Following.{Alike, alike, count_of, same_numbers}

-- Messages that are alike.

pub same_decides : (xs ys : List ℕ) → Decides (same_numbers xs ys) (xs ≡ ys)
same_decides = compares_Decides same_numbers (search rules)

pub alike_decides : (message other : Message) → Decides (alike message other) (Alike message other)
alike_decides message other = grind (arith, common_steps, same_decides, Decides-eqb, Decides-like, Decides-and)

-- Messages that are well formed.

-- what a block that reads well says is well formed
pub well-reads :
    (block : List ℕ) (contents : Contents) → reading block ≡ Ok contents
    → well_formed contents.n contents.message ≡ true
well-reads block contents e =
    let well = reads-well block contents e in
    let note = between 47 (note_end block) block in
    ap (λ (c : Contents). well_formed c.n c.message) well.says
    ∙ (and_parts (well_formed (byte block 1) (message_in block)) (leb (length note) 64 && all_within 32 126 note)
    well.fit).0

-- for a station that is there the two counts are one
pub count_is : (m : Message) (station : ℕ) → 1 ≤ station → count m station ≡ count_of m station
count_is m zero first = absurd (omega arith)
count_is m (suc place) first = ap (λ k. get_or m.after k 0) (back place)
  where
    back : (k : ℕ) → suc k - 1 ≡ k
    back k = omega arith

-- where a list has nothing but zeros from n on, so it has at every place from n on
zero-from : (numbers : List ℕ) (n place : ℕ) → all_within 0 0 (drop n numbers) ≡ true → n ≤ place → get_or numbers place 0 ≡ 0
zero-from numbers n place zeros past =
    ap (λ k. get_or numbers k 0) (split n place past) ∙ sym (get_or-drop n numbers (place - n) 0)
    ∙ ⊎_elim (λ inside. let both = within_at 0 0 (drop n numbers) (place - n) inside zeros in omega arith)
    (λ beyond. get_or_past (drop n numbers) (place - n) 0 beyond)
    (cases_lt (place - n) (length (drop n numbers)))
  where
    split : (a b : ℕ) → a ≤ b → b ≡ a + (b - a)
    split a b h = omega arith

module _ (n : ℕ) (m : Message) where
  pub group_small : well_formed n m ≡ true → n ≤ 16
  group_small well = grind (arith, nat_tests)

  pub station_first : well_formed n m ≡ true → 1 ≤ m.station
  station_first well = grind (arith, nat_tests)

  pub station_last : well_formed n m ≡ true → m.station ≤ n
  station_last well = grind (arith, nat_tests)

  pub number_first : well_formed n m ≡ true → 1 ≤ m.number
  number_first well = grind (arith, nat_tests)

  pub number_last : well_formed n m ≡ true → m.number ≤ 4096
  number_last well = grind (arith, nat_tests)

  -- it follows all that its own station said before, and no more
  pub own_count : well_formed n m ≡ true → suc (count_of m m.station) ≡ m.number
  own_count well =
      let first = station_first well in
      let number = number_first well in
      let same = count_is m m.station first in
      let before : count m m.station ≡ m.number - 1 = grind (arith, nat_tests) in
      omega arith

-- and nothing of stations that are not there
pub no_count-above : (n : ℕ) (m : Message) (station : ℕ) → well_formed n m ≡ true → n < station → count_of m station ≡ 0
no_count-above n m zero well above = refl
no_count-above n m (suc place) well above =
    let zeros : all_within 0 0 (drop n m.after) ≡ true = grind (arith, nat_tests) in
    zero-from m.after n place zeros (omega arith)
