-- The fields of a block, written one after another, each right behind what is written so far. Assumes nothing.
use Rattle.std.proofs.Common.{◌≡◌, ℕ, suc, ◌+◌, ◌-◌, ◌<◌, ◌≤◌, List, [], ◌∷◌, ◌++◌, length, get_or, set, take, drop, drop-cons, sym, refl, ap, ◌∙◌, arith}
use borrow.Rule.Slice.PartMut.{mid_of, put_mid}
use Rattle.std.proofs.lemmas.List.{append_assoc, drop_at, drop-drop, length-append, length-drop, length-take-le, set_at, take_at}

module _ (old block part : List ℕ) (at : ℕ) (stands : block ≡ part ++ drop at old) (long : length part ≡ at) where
  pub laid_byte : (value : ℕ) → at < length old → set block at value ≡ (part ++ value ∷ []) ++ drop (suc at) old
  laid_byte value inside =
      ap (λ b. set b at value) (stands ∙ ap (λ rest. part ++ rest) (drop-cons old at 0 inside))
      ∙ set_at part (get_or old at 0) (drop (suc at) old) value at long
      ∙ sym (append_assoc part (value ∷ []) (drop (suc at) old))

  pub laid_part :
      (size next : ℕ) (written : List ℕ) → at + size ≡ next
      → put_mid at size block written ≡ (part ++ written) ++ drop next old
  laid_part size next written behind =
      ap (λ b. put_mid at size b written) stands
      ∙ ap (λ front. front ++ (written ++ drop size (drop at (part ++ drop at old)))) (take_at part (drop at old) at long)
      ∙ ap (λ rest. part ++ (written ++ drop size rest)) (drop_at part (drop at old) at long)
      ∙ ap (λ rest. part ++ (written ++ rest)) (drop-drop size at old ∙ ap (λ k. drop k old) behind)
      ∙ sym (append_assoc part written (drop next old))

  -- what stands where the next field is written
  pub laid_room : (size : ℕ) → at + size ≤ length old → length (mid_of at size block) ≡ size
  laid_room size inside =
      ap (λ b. length (mid_of at size b)) stands
      ∙ ap (λ rest. length (take size rest)) (drop_at part (drop at old) at long)
      ∙ length-take-le size (drop at old) (omega (arith, length-drop at old))

module _
    (old number counts order text : List ℕ) (n station class m : ℕ) (whole : length old ≡ 512)
    (two : length number ≡ 2) (sixteen : length counts ≡ 32) (eight : length order ≡ 8)
    (long : length text ≡ m) (short : m ≤ 64) where
  abbrev head : List ℕ
  head = 1 ∷ n ∷ station ∷ class ∷ []

  abbrev up_to_text : List ℕ
  up_to_text = ((((head ++ number) ++ counts) ++ order) ++ m ∷ []) ++ text

  abbrev written : List ℕ
  written =
      put_mid 47 (47 + m - 47)
      (set (put_mid 38 8 (put_mid 6 32 (put_mid 4 2 (set (set (set (set old 0 1) 1 n) 2 station) 3 class) number) counts) order) 46 m)
      text

  up_to_text-long : length up_to_text ≡ 47 + m
  up_to_text-long = simp length-append (omega arith)

  -- the block once the note is written
  text_laid : written ≡ up_to_text ++ drop (47 + m) old
  text_laid =
      let at_1 = laid_byte old old [] 0 refl refl 1 (omega arith) in
      let at_2 = laid_byte old _ (1 ∷ []) 1 at_1 refl n (omega arith) in
      let at_3 = laid_byte old _ (1 ∷ n ∷ []) 2 at_2 refl station (omega arith) in
      let at_4 = laid_byte old _ (1 ∷ n ∷ station ∷ []) 3 at_3 refl class (omega arith) in
      let at_6 = laid_part old _ head 4 at_4 refl 2 6 number refl in
      let at_38 = laid_part old _ (head ++ number) 6 at_6 (omega arith) 32 38 counts refl in
      let at_46 = laid_part old _ ((head ++ number) ++ counts) 38 at_38 (simp length-append (omega arith)) 8 46 order refl in
      let at_47 = laid_byte old _ (((head ++ number) ++ counts) ++ order) 46 at_46 (simp length-append (omega arith)) m (omega arith) in
      laid_part old _ ((((head ++ number) ++ counts) ++ order) ++ m ∷ []) 47 at_47 (simp length-append (omega arith))
      (47 + m - 47) (47 + m) text (omega arith)

  pub spare_room : length (mid_of (47 + m) (508 - (47 + m)) written) ≡ 461 - m
  spare_room =
      laid_room old written up_to_text (47 + m) text_laid up_to_text-long (508 - (47 + m)) (omega arith) ∙ omega arith

  -- the block once its last field is written
  pub fields_laid :
      (spare : List ℕ)
      → put_mid (47 + m) (508 - (47 + m)) written spare
      ≡ (1 ∷ n ∷ station ∷ class ∷ (number ++ (counts ++ (order ++ (m ∷ (text ++ spare)))))) ++ drop 508 old
  fields_laid spare =
      let joined : up_to_text ++ spare ≡ head ++ (number ++ (counts ++ (order ++ (m ∷ (text ++ spare))))) = simp append_assoc in
      laid_part old written up_to_text (47 + m) text_laid up_to_text-long (508 - (47 + m)) 508 spare (omega arith)
      ∙ ap (λ part. part ++ drop 508 old) joined
