-- What stands at each place of the block of n, a message and a note. Assumes nothing.
use Rattle.std.proofs.Common.{◌≡◌, ℕ, zero, suc, ◌+◌, ◌-◌, ◌*◌, ◌/◌, ◌%◌, ◌<◌, ◌≤◌, List, [], ◌∷◌, ◌++◌, length, get_or, drop, replicate, sym, refl, ap, ◌∙◌, arith}
use Rattle.std.specs.List.{flat_map}
use Rattle.std.proofs.lemmas.List.{length-append, length-replicate, length-drop, get_or_append_left, get_or-drop, drop_at, drop-drop}
use Rattle.wire.specs.declared.message.Message.{Message}
use Rattle.wire.specs.Words.{byte, in_two}
use Rattle.wire.specs.Format.{checked_part}

-- numbers of two bytes each, one after another

pub length_twos : (numbers : List ℕ) → length (flat_map in_two numbers) ≡ 2 * length numbers
length_twos [] = refl
length_twos (number ∷ numbers) =
    let below = length_twos numbers in omega arith

pub at_twos :
    (numbers : List ℕ) (k : ℕ) → k < 2 * length numbers
    → get_or (flat_map in_two numbers) k 0 ≡ get_or (in_two (get_or numbers (k / 2) 0)) (k % 2) 0
at_twos [] k h = absurd (omega arith)
at_twos (number ∷ numbers) zero h = refl
at_twos (number ∷ numbers) (suc zero) h = refl
at_twos (number ∷ numbers) (suc (suc k)) h =
    at_twos numbers k (omega arith)
    ∙ ap (λ i. get_or (in_two (get_or (number ∷ numbers) i 0)) (k % 2) 0) (half k)
    ∙ ap (λ i. get_or (in_two (get_or (number ∷ numbers) (suc (suc k) / 2) 0)) i 0) (parity k)
  where
    half : (j : ℕ) → suc (j / 2) ≡ suc (suc j) / 2
    half j = omega arith

    parity : (j : ℕ) → j % 2 ≡ suc (suc j) % 2
    parity j = omega arith

-- the half of a number at a place, by the number's index and by which half it is
half_of :
    (numbers : List ℕ) (k j half : ℕ) → k / 2 ≡ j → k % 2 ≡ half
    → get_or (in_two (get_or numbers (k / 2) 0)) (k % 2) 0 ≡ get_or (in_two (get_or numbers j 0)) half 0
half_of numbers k j half at which =
    ap (λ i. get_or (in_two (get_or numbers i 0)) (k % 2) 0) at
    ∙ ap (λ i. get_or (in_two (get_or numbers j 0)) i 0) which

-- zeros after a list are what stands past its end
zeros_after : (xs : List ℕ) (m k : ℕ) → get_or (xs ++ replicate m 0) k 0 ≡ get_or xs k 0
zeros_after [] zero k = refl
zeros_after [] (suc m) zero = refl
zeros_after [] (suc m) (suc k) = zeros_after [] m k
zeros_after (x ∷ xs) m zero = refl
zeros_after (x ∷ xs) m (suc k) = zeros_after xs m k

-- a place by how far it lies past another
pub at_place : (bytes : List ℕ) (base place : ℕ) → base ≤ place → byte bytes (base + (place - base)) ≡ byte bytes place
at_place bytes base place h = ap (byte bytes) (omega arith)

module _ (n : ℕ) (message : Message) (note : List ℕ) (sixteen : length message.after ≡ 16) (eight : length message.order ≡ 8) where
  -- what follows the fields that stand at fixed places
  abbrev spare : List ℕ
  spare = replicate (461 - length note) 0

  abbrev from_note : List ℕ
  from_note = note ++ spare

  abbrev from_order : List ℕ
  from_order = message.order ++ (length note ∷ from_note)

  pub from_4 : drop 4 (checked_part n message note) ≡ in_two message.number ++ (flat_map in_two message.after ++ from_order)
  unfolding checked_part
  from_4 = refl

  pub from_6 : drop 6 (checked_part n message note) ≡ flat_map in_two message.after ++ from_order
  unfolding checked_part
  from_6 = refl

  pub from_38 : drop 38 (checked_part n message note) ≡ from_order
  unfolding checked_part
  from_38 = drop_at (flat_map in_two message.after) from_order 32 (length_twos message.after ∙ ap (λ k. 2 * k) sixteen)

  pub from_46 : drop 46 (checked_part n message note) ≡ length note ∷ from_note
  from_46 =
      sym (drop-drop 8 38 (checked_part n message note))
      ∙ ap (drop 8) from_38
      ∙ drop_at message.order (length note ∷ from_note) 8 eight

  pub from_47 : drop 47 (checked_part n message note) ≡ from_note
  from_47 = sym (drop-drop 1 46 (checked_part n message note)) ∙ ap (drop 1) from_46

  pub length_checked : length note ≤ 64 → length (checked_part n message note) ≡ 508
  length_checked short =
      omega (arith, length-drop 46 (checked_part n message note), ap length from_46, length-append note spare, length-replicate {A = ℕ} (461 - length note) 0)

  pub at_number : (k : ℕ) → k < 2 → byte (checked_part n message note) (4 + k) ≡ get_or (in_two message.number) k 0
  at_number k h =
      sym (get_or-drop 4 (checked_part n message note) k 0)
      ∙ ap (λ xs. get_or xs k 0) from_4
      ∙ get_or_append_left (in_two message.number) (flat_map in_two message.after ++ from_order) 0 k h

  pub at_counts :
      (k : ℕ) → k < 32
      → byte (checked_part n message note) (6 + k) ≡ get_or (in_two (get_or message.after (k / 2) 0)) (k % 2) 0
  at_counts k h =
      sym (get_or-drop 6 (checked_part n message note) k 0)
      ∙ ap (λ xs. get_or xs k 0) from_6
      ∙ get_or_append_left (flat_map in_two message.after) from_order 0 k
      (omega (arith, length_twos message.after))
      ∙ at_twos message.after k (omega arith)

  pub at_count_low :
      (j : ℕ) → j < 16 → byte (checked_part n message note) (6 + 2 * j) ≡ get_or message.after j 0 % 256
  at_count_low j h =
      at_counts (2 * j) (omega arith)
      ∙ half_of message.after (2 * j) j 0 (omega arith) (omega arith)

  pub at_count_high :
      (j : ℕ) → j < 16 → byte (checked_part n message note) (6 + 2 * j + 1) ≡ get_or message.after j 0 / 256 % 256
  at_count_high j h =
      ap (byte (checked_part n message note)) (next j)
      ∙ at_counts (2 * j + 1) (omega arith)
      ∙ half_of message.after (2 * j + 1) j 1 (omega arith) (omega arith)
    where
      next : (k : ℕ) → 6 + 2 * k + 1 ≡ 6 + (2 * k + 1)
      next k = omega arith

  pub at_order : (k : ℕ) → k < 8 → byte (checked_part n message note) (38 + k) ≡ get_or message.order k 0
  at_order k h =
      sym (get_or-drop 38 (checked_part n message note) k 0)
      ∙ ap (λ xs. get_or xs k 0) from_38
      ∙ get_or_append_left message.order (length note ∷ from_note) 0 k (omega arith)

  pub at_length : byte (checked_part n message note) 46 ≡ length note
  at_length = sym (get_or-drop 46 (checked_part n message note) 0 0) ∙ ap (λ xs. get_or xs 0 0) from_46

  -- the note, and 0 after it
  pub at_note : (k : ℕ) → byte (checked_part n message note) (47 + k) ≡ get_or note k 0
  at_note k =
      sym (get_or-drop 47 (checked_part n message note) k 0)
      ∙ ap (λ xs. get_or xs k 0) from_47
      ∙ zeros_after note (461 - length note) k

  -- past the note, all is 0
  pub from_spare : drop (47 + length note) (checked_part n message note) ≡ spare
  from_spare =
      sym (drop-drop (length note) 47 (checked_part n message note))
      ∙ ap (drop (length note)) from_47
      ∙ drop_at note spare (length note) refl
