-- A block that reads well is the block of what it reads as. Assumes nothing.
use Rattle.std.proofs.Common.{◌≡◌, ℕ, zero, suc, ◌+◌, ◌-◌, ◌*◌, ◌/◌, ◌%◌, ◌<◌, ◌≤◌, cond, eqb, List, [], ◌∷◌, ◌++◌, length, get_or, take, drop, Ok, Err, sym, refl, ap, ◌∙◌, inl, inr, arith}
use Rattle.std.specs.List.{between}
use Rattle.std.proofs.lemmas.List.FromFn.{get_or-map-range_with_len, length-map-range_with_len}
use Rattle.std.proofs.lemmas.List.{ext_get_or, get_or-drop, get_or_past, get_or-take, length-drop, length-take-le, take-append-drop}
use Rattle.std.proofs.lemmas.List.Edits.{get_or-between, length-between}
use Rattle.std.proofs.lemmas.Bool.{cases_lt, cond-true, eq-eqb}
use Rattle.wire.specs.declared.fault.Fault.TheVariants.{Length, Layout}
use Rattle.wire.specs.Laws.{FillsAgain}
use Rattle.wire.specs.declared.message.Message.{Message}
use Rattle.wire.specs.Words.{byte, four_bytes, in_four, in_two, two_bytes}
use Rattle.wire.specs.Format.{Contents, block_of, checked_part, counts_in, fitting, message_in, note_end, reading}
use Rattle.wire.proofs.Fields.{at_counts, at_length, at_note, at_number, at_order, at_place, length_checked}
use Rattle.wire.proofs.Numbers.{four_again, in_two-high, in_two-low}
use Rattle.wire.proofs.Ranges.{within_at}
use Rattle.wire.proofs.Seals.{check_sum-same}
use Rattle.wire.proofs.Verdicts.{ReadsWell, reads-well}

module _
    (block : List ℕ) (contents : Contents) (reads : reading block ≡ Ok contents)
    (bytes : (i : ℕ) → byte block i < 256) where
  abbrev n : ℕ
  n = byte block 1

  abbrev message : Message
  message = message_in block

  abbrev note : List ℕ
  note = between 47 (note_end block) block

  abbrev part : List ℕ
  part = checked_part n message note

  well : ReadsWell block contents
  well = reads-well block contents reads

  sixteen : length message.after ≡ 16
  unfolding counts_in
  sixteen = length-map-range_with_len (λ j. two_bytes block (6 + 2 * j)) 0 16

  eight : length message.order ≡ 8
  eight = length-between block 38 46 (omega (arith, well.long))

  note_length : length note ≡ byte block 46
  note_length =
      length-between block 47 (note_end block) (omega (arith, well.long, well.short))
      ∙ back (byte block 46)
    where
      back : (k : ℕ) → 47 + k - 47 ≡ k
      back k = omega arith

  count_is : (j : ℕ) → j < 16 → get_or message.after j 0 ≡ two_bytes block (6 + 2 * j)
  unfolding counts_in
  count_is j h = get_or-map-range_with_len (λ j. two_bytes block (6 + 2 * j)) 0 16 j j 0 h (omega arith)

  number_at : (place k : ℕ) → k < 2 → get_or (in_two (two_bytes block place)) k 0 ≡ byte block (place + k)
  number_at place zero h =
      in_two-low (byte block place) (byte block (place + 1)) (bytes place) (bytes (place + 1))
      ∙ ap (byte block) (same place)
    where
      same : (p : ℕ) → p ≡ p + 0
      same p = omega arith
  number_at place (suc zero) h =
      in_two-high (byte block place) (byte block (place + 1)) (bytes place) (bytes (place + 1))
  number_at place (suc (suc k)) h = absurd (omega arith)

  -- the fields of the part, each with the bytes that it was read from

  at_head : (place : ℕ) → place < 4 → byte part place ≡ byte block place
  unfolding checked_part
  at_head zero h = sym well.kind
  at_head (suc zero) h = refl
  at_head (suc (suc zero)) h = refl
  at_head (suc (suc (suc zero))) h = refl
  at_head (suc (suc (suc (suc place)))) h = absurd (omega arith)

  at_4 : (k : ℕ) → k < 2 → byte part (4 + k) ≡ byte block (4 + k)
  at_4 k h = at_number n message note sixteen eight k h ∙ number_at 4 k h

  at_6 : (k : ℕ) → k < 32 → byte part (6 + k) ≡ byte block (6 + k)
  at_6 k h =
      at_counts n message note sixteen eight k h
      ∙ ap (λ number. get_or (in_two number) (k % 2) 0) (count_is (k / 2) (omega arith))
      ∙ number_at (6 + 2 * (k / 2)) (k % 2) (omega arith)
      ∙ ap (byte block) (whole k)
    where
      whole : (i : ℕ) → 6 + 2 * (i / 2) + i % 2 ≡ 6 + i
      whole i = omega arith

  at_38 : (k : ℕ) → k < 8 → byte part (38 + k) ≡ byte block (38 + k)
  at_38 k h = at_order n message note sixteen eight k h ∙ get_or-between block 38 46 k 0 (omega arith)

  at_46 : byte part 46 ≡ byte block 46
  at_46 = at_length n message note sixteen eight ∙ note_length

  -- past the note, the block has zeros
  spare_at : (place : ℕ) → note_end block ≤ place → place < 508 → byte block place ≡ 0
  spare_at place past inside =
      let i = place - note_end block in
      let zero-there =
      within_at 0 0 (between (note_end block) 508 block) (place - note_end block)
      (omega (arith, length-between block (note_end block) 508 (omega (arith, well.long))))
      well.spare in
      let at = get_or-between block (note_end block) 508 (place - note_end block) 0 (omega arith) in
      let there = ap (byte block) (again (note_end block) place past) in
      omega arith
    where
      again : (a b : ℕ) → a ≤ b → a + (b - a) ≡ b
      again a b h = omega arith

  at_47 : (k : ℕ) → k < 461 → byte part (47 + k) ≡ byte block (47 + k)
  at_47 k h =
      at_note n message note sixteen eight k
      ∙ elim (cases_lt k (byte block 46)) [
        | inl inside ↦ get_or-between block 47 (note_end block) k 0 (omega arith)
        | inr past ↦ get_or_past note k 0 (omega (arith, note_length)) ∙ sym (spare_at (47 + k) (omega arith) (omega arith))
      ]

  from_base :
      (base place : ℕ) → base ≤ place → byte part (base + (place - base)) ≡ byte block (base + (place - base))
      → byte part place ≡ byte block place
  from_base base place h e = sym (at_place part base place h) ∙ e ∙ at_place block base place h

  part_at : (place : ℕ) → place < 508 → byte part place ≡ byte block place
  part_at place inside =
      elim (cases_lt place 4) [
        | inl h ↦ at_head place h
        | inr from_4 ↦
            elim (cases_lt place 6) [
              | inl h ↦ from_base 4 place from_4 (at_4 (place - 4) (omega arith))
              | inr from_6 ↦
                  elim (cases_lt place 38) [
                    | inl h ↦ from_base 6 place from_6 (at_6 (place - 6) (omega arith))
                    | inr from_38 ↦
                        elim (cases_lt place 46) [
                          | inl h ↦ from_base 38 place from_38 (at_38 (place - 38) (omega arith))
                          | inr from_46 ↦
                              elim (cases_lt place 47) [
                                | inl h ↦
                                    let here : place ≡ 46 = omega arith in
                                    ap (byte part) here ∙ at_46 ∙ ap (byte block) (sym here)
                                | inr from_47 ↦ from_base 47 place from_47 (at_47 (place - 47) (omega arith))
                              ]
                        ]
                  ]
            ]
      ]

  part_whole : length part ≡ 508
  part_whole = length_checked n message note sixteen eight (omega (arith, note_length, well.short))

  front : take 508 block ≡ part
  front =
      let long = length-take-le 508 block (omega (arith, well.long)) in
      ext_get_or 0 (take 508 block) part (long ∙ sym part_whole)
      (λ k h. get_or-take 508 block k 0 (omega arith) ∙ sym (part_at k (omega arith)))

  last_four : in_four (four_bytes block 508) ≡ drop 508 block
  last_four =
      four_again (byte block 508) (byte block 509) (byte block 510) (byte block 511) (bytes 508) (bytes 509) (bytes 510) (bytes 511)
      ∙ ext_get_or 0 (byte block 508 ∷ byte block 509 ∷ byte block 510 ∷ byte block 511 ∷ []) (drop 508 block)
      (sym (length-drop 508 block ∙ ap (λ k. k - 508) well.long))
      by_place
    where
      by_place :
          (k : ℕ) → k < 4
          → get_or (byte block 508 ∷ byte block 509 ∷ byte block 510 ∷ byte block 511 ∷ []) k 0 ≡ get_or (drop 508 block) k 0
      by_place zero h = sym (get_or-drop 508 block 0 0)
      by_place (suc zero) h = sym (get_or-drop 508 block 1 0)
      by_place (suc (suc zero)) h = sym (get_or-drop 508 block 2 0)
      by_place (suc (suc (suc zero))) h = sym (get_or-drop 508 block 3 0)
      by_place (suc (suc (suc (suc k)))) h = absurd (omega arith)

  again : block_of n message note ≡ block
  unfolding block_of
  again =
      ap (λ sum. part ++ in_four sum) (check_sum-same part block part_at ∙ sym well.holds)
      ∙ ap (λ end. part ++ end) last_four
      ∙ ap (λ start. start ++ drop 508 block) (sym front)
      ∙ take-append-drop 508 block

  pub refilled : block_of contents.n contents.message contents.note ≡ block
  refilled = ap (λ c. block_of c.n c.message c.note) well.says ∙ again

-- filled into any block of the right length
pub fills_again : (block : List ℕ) → ((i : ℕ) → byte block i < 256) → FillsAgain block
fills_again block bytes contents other reads long =
    let well = reads-well block contents reads in
    let fit = ap (λ c. fitting c.n c.message c.note) well.says ∙ well.fit in
    let size = eq-eqb (length other) 512 long in
    let same = fitting contents.n contents.message contents.note in (
      cond-true (eqb (length other) 512) (cond same (Ok tt) (Err Layout)) (Err Length) size
          ∙ cond-true same (Ok tt) (Err Layout) fit,
      cond-true (eqb (length other) 512) (cond same (block_of contents.n contents.message contents.note) other) other size
          ∙ cond-true same (block_of contents.n contents.message contents.note) other fit
          ∙ refilled block contents reads bytes,
    )
