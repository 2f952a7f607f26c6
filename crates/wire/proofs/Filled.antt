-- The block of n, a message and a note reads as these. Assumes nothing.
use Rattle.std.proofs.Common.{◌≡◌, ℕ, ◌+◌, ◌-◌, ◌*◌, ◌^◌, ◌<◌, ◌≤◌, true, List, [], ◌++◌, map, length, get_or, take, drop, replicate, Ok, sym, refl, ap, ◌∙◌, arith}
use Rattle.std.specs.List.{between, range_with_len}
use Rattle.std.proofs.lemmas.List.FromFn.{get_or-map-range_with_len, length-map-range_with_len}
use Rattle.std.proofs.lemmas.List.{append_assoc, append-nil, drop-append-le, ext_get_or, get_or_append_left, get_or-append_right, length-append, length-replicate, take_at}
use Rattle.wire.specs.declared.message.Message.{Message}
use Rattle.wire.specs.Words.{all_within, byte, four_bytes, in_four, two_bytes}
use Rattle.wire.specs.Messages.{Shaped}
use Rattle.wire.specs.Format.{Contents, block_of, check_sum, checked_part, contents_in, counts_in, fitting, message_in, reading}
use Rattle.wire.proofs.Fields.{at_count_high, at_count_low, at_length, at_number, from_38, from_47, from_spare, length_checked}
use Rattle.wire.proofs.Numbers.{four_told, two_told}
use Rattle.wire.proofs.Ranges.{within_at, within_zeros}
use Rattle.wire.proofs.Seals.{check_sum-front}
use Rattle.wire.proofs.Verdicts.{fits-block, well-reads}

-- messages with equal fields are equal
same-message :
    (a b : Message) → a.station ≡ b.station → a.number ≡ b.number → a.after ≡ b.after
    → a.class ≡ b.class → a.order ≡ b.order → a ≡ b
same-message a b station number after class order =
    λ i. record { station = station i; number = number i; after = after i; class = class i; order = order i }

same-contents : (a b : Contents) → a.n ≡ b.n → a.message ≡ b.message → a.note ≡ b.note → a ≡ b
same-contents a b n message note = λ i. record { n = n i; message = message i; note = note i }

-- a piece of a list that another follows
piece :
    (front end xs ys : List ℕ) (from m : ℕ) → from ≤ length front → drop from front ≡ xs ++ ys → length xs ≡ m
    → take m (drop from (front ++ end)) ≡ xs
piece front end xs ys from m inside stands long =
    ap (take m) (drop-append-le from front end inside ∙ ap (λ zs. zs ++ end) stands ∙ append_assoc xs ys end)
    ∙ take_at xs (ys ++ end) m long

module _
    (n : ℕ) (message : Message) (note : List ℕ) (shape : Shaped message) (fit : fitting n message note ≡ true)
    (small : check_sum (checked_part n message note) < 2 ^ 32) where
  abbrev part : List ℕ
  part = checked_part n message note

  abbrev block : List ℕ
  block = block_of n message note

  short : length note ≤ 64
  short = (fits-block n message note fit).short

  whole : length part ≡ 508
  whole = length_checked n message note shape.0 shape.1 short

  block_is : block ≡ part ++ in_four (check_sum part)
  unfolding block_of
  block_is = refl

  below : (place : ℕ) → place < 508 → byte block place ≡ byte part place
  below place inside =
      ap (λ b. byte b place) block_is
      ∙ get_or_append_left part (in_four (check_sum part)) 0 place (omega (arith, whole))

  last : (k : ℕ) → byte block (508 + k) ≡ get_or (in_four (check_sum part)) k 0
  last k =
      ap (λ b. byte b (508 + k)) block_is
      ∙ get_or-append_right part (in_four (check_sum part)) 508 (508 + k) 0 whole (omega arith)
      ∙ ap (λ i. get_or (in_four (check_sum part)) i 0) (back k)
    where
      back : (i : ℕ) → 508 + i - 508 ≡ i
      back i = omega arith

  block_long : length block ≡ 512
  block_long = ap length block_is ∙ length-append part (in_four (check_sum part)) ∙ ap (λ k. k + 4) whole

  block_holds : four_bytes block 508 ≡ check_sum block
  block_holds =
      let sum = ap check_sum block_is ∙ check_sum-front part (in_four (check_sum part)) whole in
      let a = last 0 in
      let b = last 1 in
      let c = last 2 in
      let d = last 3 in
      let told = four_told (check_sum part) small in
      omega arith

  block_number : two_bytes block 4 ≡ message.number
  block_number =
      let a = below 4 (omega arith) ∙ at_number n message note shape.0 shape.1 0 (omega arith) in
      let b = below 5 (omega arith) ∙ at_number n message note shape.0 shape.1 1 (omega arith) in
      let told = two_told message.number (omega (arith, (fits-block n message note fit).numbered)) in
      omega arith

  block_count : (j : ℕ) → j < 16 → two_bytes block (6 + 2 * j) ≡ get_or message.after j 0
  block_count j h =
      let a = below (6 + 2 * j) (omega arith) ∙ at_count_low n message note shape.0 shape.1 j h in
      let b = below (6 + 2 * j + 1) (omega arith) ∙ at_count_high n message note shape.0 shape.1 j h in
      let bound = within_at 0 4096 message.after j (omega arith) (fits-block n message note fit).counted in
      let told = two_told (get_or message.after j 0) (omega arith) in
      omega arith

  block_counts : counts_in block ≡ message.after
  unfolding counts_in
  block_counts =
      ext_get_or 0 (map (λ j. two_bytes block (6 + 2 * j)) (range_with_len 0 16)) message.after
      (length-map-range_with_len (λ j. two_bytes block (6 + 2 * j)) 0 16 ∙ sym shape.0)
      (λ j h.
      get_or-map-range_with_len (λ j. two_bytes block (6 + 2 * j)) 0 16 j j 0 (omega arith) (omega arith)
      ∙ block_count j (omega arith))

  block_order : between 38 46 block ≡ message.order
  block_order =
      ap (λ b. take 8 (drop 38 b)) block_is
      ∙ piece part (in_four (check_sum part)) message.order _ 38 8 (omega (arith, whole)) (from_38 n message note shape.0 shape.1) shape.1

  block_note : between 47 (47 + length note) block ≡ note
  block_note =
      ap (λ m. take m (drop 47 block)) (back (length note))
      ∙ ap (λ b. take (length note) (drop 47 b)) block_is
      ∙ piece part (in_four (check_sum part)) note _ 47 (length note) (omega (arith, whole)) (from_47 n message note shape.0 shape.1) refl
    where
      back : (k : ℕ) → 47 + k - 47 ≡ k
      back k = omega arith

  block_spare : between (47 + length note) 508 block ≡ replicate (461 - length note) 0
  block_spare =
      ap (λ m. take m (drop (47 + length note) block)) (left (length note))
      ∙ ap (λ b. take (461 - length note) (drop (47 + length note) b)) block_is
      ∙ piece part (in_four (check_sum part)) (replicate (461 - length note) 0) [] (47 + length note) (461 - length note)
      (omega (arith, whole, short))
      (from_spare n message note shape.0 shape.1 ∙ sym (append-nil (replicate (461 - length note) 0)))
      (length-replicate {A = ℕ} (461 - length note) 0)
    where
      left : (k : ℕ) → 508 - (47 + k) ≡ 461 - k
      left k = omega arith

  block_length : byte block 46 ≡ length note
  block_length = below 46 (omega arith) ∙ at_length n message note shape.0 shape.1

  -- the first four bytes
  block_head : (byte block 0 ≡ 1) × (byte block 1 ≡ n) × (byte block 2 ≡ message.station) × (byte block 3 ≡ message.class)
  unfolding checked_part
  block_head = (below 0 (omega arith), below 1 (omega arith), below 2 (omega arith), below 3 (omega arith))

  block_message : message_in block ≡ message
  block_message =
      same-message (message_in block) message block_head.2 block_number block_counts block_head.3 block_order

  block_contents : record { n = n; message = message; note = note } ≡ contents_in block
  block_contents =
      same-contents _ (contents_in block) (sym block_head.1) (sym block_message)
      (sym (ap (λ k. between 47 (47 + k) block) block_length ∙ block_note))

  pub filled_reads : reading block ≡ Ok (record { n = n; message = message; note = note })
  filled_reads =
      well-reads block (record { n = n; message = message; note = note }) (record {
        long = block_long;
        holds = block_holds;
        kind = block_head.0;
        short = omega (arith, block_length, short);
        fit = ap (λ c. fitting c.n c.message c.note) (sym block_contents) ∙ fit;
        spare =
            ap (λ k. all_within 0 0 (between (47 + k) 508 block)) block_length
            ∙ ap (all_within 0 0) block_spare
            ∙ within_zeros (461 - length note);
        says = block_contents;
      })
