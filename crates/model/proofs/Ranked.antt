-- Putting a message in at its place in an array. Assumes nothing.
use Rattle.std.proofs.Common.{◌≡◌, ℕ, suc, ◌+◌, ◌-◌, ◌<◌, ◌≤◌, Bool, true, false, cond, not, ltb, ◌⊎◌, List, [], ◌∷◌, ◌++◌, length, get_or, take, drop, set, Some, None, Option, unwrap_or, sym, refl, ap, ◌∙◌, ap₂, add-one, inl, inr, arith}
use Rattle.std.proofs.lemmas.Grind.{common_steps}
use borrow.Rule.Slice.PartMut.{put_mid}
use Rattle.std.specs.List.{between, insert, position, position_or_len}
use Rattle.std.proofs.lemmas.List.{drop-append-le, drop_at, length-append, length-drop, length-set, length-take-le, take_at, take_more_set, take-set-le, take-take}
use Rattle.std.proofs.lemmas.List.Sums.{prefix_len-le-length}
use Rattle.std.proofs.lemmas.Slice.{between_is, take-put_mid}
use Rattle.std.proofs.lemmas.Bool.{cases_lt, le-ltb, lt-ltb}
use Rattle.board.specs.Sets.{has}
use Rattle.ties.specs.Ties.{TieMeaning}
use Rattle.wire.specs.declared.message.Message.{Message}
use Rattle.model.specs.Arrays.{heads_by_station, place_for, source_head}
use Rattle.model.specs.Waves.{HeadsOf, add_head, goes_before, heads_below, in_order, put_in, wave_of}

-- the first place that passes, or the end
pub place_is : {X : Type 0} (test : X → Bool) (xs : List X) → unwrap_or (position test xs) (length xs) ≡ position_or_len test xs
place_is test xs =
    by (position_or_len test xs) (length xs) (prefix_len-le-length (λ x. not (test x)) xs)
    (cases_lt (position_or_len test xs) (length xs))
  where
    by : (place long : ℕ) → place ≤ long → (place < long) ⊎ (long ≤ place) → unwrap_or (cond (ltb place long) (Some place) None) long ≡ place
    by place long within (inl below) = rw (lt-ltb place long below)
    by place long within (inr past) = rw (le-ltb place long past) (omega arith)

-- putting in is inserting at the place
module _ (order : TieMeaning) (wave : ℕ) (message : Message) where
  put_at : (messages : List Message) → put_in order wave message messages ≡ insert messages (position_or_len (goes_before order wave message) messages) message
  unfolding put_in
  put_at [] = refl
  put_at (first ∷ rest) = by (goes_before order wave message first) (position_or_len (goes_before order wave message) rest) (put_at rest)
    where
      by :
          (before : Bool) (place : ℕ) → put_in order wave message rest ≡ insert rest place message
          → cond before (message ∷ first ∷ rest) (first ∷ put_in order wave message rest)
          ≡ insert (first ∷ rest) (cond (not before) (1 + place) 0) message
      by true place e = refl
      by false place e =
          let one : 1 + place ≡ suc place = omega arith in
          ap (λ r. first ∷ r) e ∙ sym (ap (λ k. insert (first ∷ rest) k message) one)

  pub put_in_is : (messages : List Message) → put_in order wave message messages ≡ insert messages (place_for order wave message messages) message
  put_in_is messages =
      put_at messages ∙ sym (ap (λ k. insert messages k message) (place_is (goes_before order wave message) messages))

-- what stands in an array once its part from a place up to a new last message is turned by one
pub turned :
    (array : List Message) (count place : ℕ) (message : Message) (part : List Message)
    → count < length array → place ≤ count
    → part
    ≡ drop (length (between place (count + 1) (set array count message)) - 1) (between place (count + 1) (set array count message))
    ++ take (length (between place (count + 1) (set array count message)) - 1) (between place (count + 1) (set array count message))
    → take (count + 1) (put_mid place (count + 1 - place) (set array count message) part)
    ≡ insert (take count array) place message
turned array count place message part room within is =
    take-put_mid place (count + 1 - place) (set array count message) part (count + 1) long (omega (arith, length-set array count message))
    ∙ ap₂ (λ a b. a ++ b) (take-set-le place array count message within ∙ sym (take-take place count array within)) whole
  where
    rest : List Message
    rest = drop place (take count array)

    rest_long : length rest ≡ count - place
    rest_long = length-drop place (take count array) ∙ ap (λ k. k - place) (length-take-le count array (omega arith))

    -- the part before it is turned
    before : between place (count + 1) (set array count message) ≡ rest ++ message ∷ []
    before =
        between_is (set array count message) place (count + 1)
        ∙ ap (drop place) (take_more_set array count message room)
        ∙ drop-append-le place (take count array) (message ∷ []) (omega (arith, length-take-le count array (omega arith)))

    before_long : length (between place (count + 1) (set array count message)) - 1 ≡ length rest
    before_long =
        let whole_long = ap length before ∙ length-append rest (message ∷ []) in
        less whole_long
      where
        less :
            length (between place (count + 1) (set array count message)) ≡ length rest + 1
            → length (between place (count + 1) (set array count message)) - 1 ≡ length rest
        less h = omega arith

    whole : part ≡ message ∷ rest
    whole =
        is
        ∙ ap₂ (λ k xs. drop k xs ++ take k xs) before_long before
        ∙ ap₂ (λ a b. a ++ b) (drop_at rest (message ∷ []) (length rest) refl) (take_at rest (message ∷ []) (length rest) refl)

    long : count + 1 ≡ place + length part
    long = let parts = ap length whole in omega (arith, rest_long)

-- and it is as long as before
pub turned-long :
    (array : List Message) (count place : ℕ) (part : List Message) → count < length array → place ≤ count
    → length part ≡ length (between place (count + 1) array)
    → length (put_mid place (count + 1 - place) array part) ≡ length array
turned-long array count place part room within same =
    let front = length-take-le place array (omega arith) in
    let rest = length-drop place array in
    let middle = length-take-le (count + 1 - place) (drop place array) (omega arith) in
    let last = length-drop (count + 1 - place) (drop place array) in
    let whole = length-append (take place array) (part ++ drop (count + 1 - place) (drop place array)) in
    let tail = length-append part (drop (count + 1 - place) (drop place array)) in
    omega arith

-- The heads of the sources at one place more.

pub heads_none : (order : TieMeaning) (wave : ℕ) (heads : HeadsOf) (sources : ℕ) → [] ≡ in_order order wave (heads_below heads sources 0)
unfolding in_order heads_below
heads_none order wave heads sources = refl

module _ (order : TieMeaning) (wave : ℕ) (heads : List (Option Message)) (sources place : ℕ) where
  -- the heads of the sources at places below a bound, in order
  abbrev pub below_bound : ℕ → List Message
  below_bound bound = in_order order wave (heads_below (heads_by_station heads) sources bound)

  below_more :
      (asked : Bool) (head : Option Message) → has sources place ≡ asked → get_or heads place None ≡ head
      → in_order order wave (add_head asked head (heads_below (heads_by_station heads) sources place)) ≡ below_bound (place + 1)
  unfolding heads_below
  below_more asked head is there = grind (arith, common_steps)

  -- a source's head is put in
  pub heads_more :
      (message : Message) → Some message ≡ source_head heads sources place
      → put_in order wave message (below_bound place) ≡ below_bound (place + 1)
  unfolding in_order
  heads_more message e = by (has sources place) (get_or heads place None) refl refl e
    where
      by :
          (asked : Bool) (head : Option Message) → has sources place ≡ asked → get_or heads place None ≡ head
          → Some message ≡ cond asked head None
          → put_in order wave message (below_bound place) ≡ below_bound (place + 1)
      by true (Some head) is there same = ap (λ m. put_in order wave m (below_bound place)) (let one : message ≡ head = cc in one) ∙ below_more true (Some head) is there
      by true None is there same = absurd (let z : ◌≡◌ {A = ℕ} 0 1 = cc in omega arith)
      by false head is there same = absurd (let z : ◌≡◌ {A = ℕ} 0 1 = cc in omega arith)

  -- a place that is no source, and a place with no head, leave it as it is
  pub no_source :
      (before after : List Message) → has sources place ≡ false → before ≡ below_bound place → after ≡ before
      → after ≡ below_bound (place + 1)
  no_source before after is ordered same = same ∙ ordered ∙ below_more false (get_or heads place None) is refl

  pub no_head :
      (before after : List Message) → get_or heads place None ≡ None → before ≡ below_bound place → after ≡ before
      → after ≡ below_bound (place + 1)
  no_head before after none ordered same = by (has sources place) refl
    where
      by : (asked : Bool) → has sources place ≡ asked → after ≡ below_bound (place + 1)
      by true is = same ∙ ordered ∙ below_more true None is none
      by false is = same ∙ ordered ∙ below_more false None is none

  pub heads_same : None ≡ source_head heads sources place → below_bound place ≡ below_bound (place + 1)
  unfolding in_order
  heads_same e = by (has sources place) (get_or heads place None) refl refl e
    where
      by :
          (asked : Bool) (head : Option Message) → has sources place ≡ asked → get_or heads place None ≡ head
          → None ≡ cond asked head None → below_bound place ≡ below_bound (place + 1)
      by true (Some head) is there none = absurd (let z : ◌≡◌ {A = ℕ} 0 1 = cc in omega arith)
      by true None is there none = below_more true None is there
      by false head is there none = below_more false head is there

  -- at the last place it is the wave
  pub heads_all :
      (messages : List Message) → messages ≡ below_bound place → place ≡ 16
      → messages ≡ wave_of order wave (heads_by_station heads) sources
  unfolding wave_of
  heads_all messages ordered all = ordered ∙ ap below_bound all
