-- The computed wave is the wave of the sources' heads, and no other list is. Assumes nothing.
use Rattle.std.proofs.Common.{◌≡◌, ℕ, zero, suc, ◌<◌, ◌≤◌, Bool, true, false, ◌⊎◌, List, Some, None, Option, sym, refl, ap, ◌∙◌, ⊎_elim, arith}
use Rattle.std.proofs.lemmas.Grind.{common_steps}
use Rattle.std.proofs.lemmas.Bool.{cases_eq}
use Rattle.board.specs.Sets.{has}
use Rattle.ties.specs.Ties.{Lawful, TieMeaning}
use Rattle.wire.specs.declared.message.Message.{Message}
use Rattle.model.specs.Laws.{ByStation, OfGroup, WavesAreOne}
use Rattle.model.specs.Waves.{HeadsOf, IsWave, On, add_head, heads_below, wave_of}
use Rattle.model.proofs.Sorting.{Spread, on_sorted, one_list, sorted_ascending, sorted_on}

-- a message is the head of the source at a place below a bound
abbrev HeadBelow : HeadsOf → ℕ → ℕ → Message → Type 0
HeadBelow heads sources bound message =
    (place : ℕ) × (place < bound) × (has sources place ≡ true) × (heads (suc place) ≡ Some message)

added :
    (asked : Bool) (head : Option Message) (messages : List Message) (message : Message)
    → On message (add_head asked head messages) → ((asked ≡ true) × (head ≡ Some message)) ⊎ On message messages
added = grind (arith, common_steps)

added_first :
    (asked : Bool) (head : Option Message) (messages : List Message) (message : Message)
    → asked ≡ true → head ≡ Some message → On message (add_head asked head messages)
added_first = grind (arith, common_steps)

added_rest :
    (asked : Bool) (head : Option Message) (messages : List Message) (message : Message)
    → On message messages → On message (add_head asked head messages)
added_rest = grind (arith, common_steps)

-- the listed heads are the heads of the sources below the bound, and nothing else

listed-head :
    (heads : HeadsOf) (sources bound : ℕ) (message : Message)
    → On message (heads_below heads sources bound) → HeadBelow heads sources bound message
unfolding heads_below
listed-head heads sources zero message on = elim on [ ]
listed-head heads sources (suc place) message on =
    ⊎_elim (λ here. (place, omega arith, here.0, here.1))
    (λ below.
    let found = listed-head heads sources place message below in
    (found.0, omega (arith, found.1), found.2, found.3))
    (added (has sources place) (heads (suc place)) (heads_below heads sources place) message on)

head-listed :
    (heads : HeadsOf) (sources bound place : ℕ) (message : Message)
    → place < bound → has sources place ≡ true → heads (suc place) ≡ Some message
    → On message (heads_below heads sources bound)
unfolding heads_below
head-listed heads sources zero place message below asked e = absurd (omega arith)
head-listed heads sources (suc bound) place message below asked e =
    ⊎_elim
    (λ same.
    added_first (has sources bound) (heads (suc bound)) (heads_below heads sources bound) message
    (sym (ap (has sources) same) ∙ asked) (sym (ap (λ k. heads (suc k)) same) ∙ e))
    (λ lower.
    added_rest (has sources bound) (heads (suc bound)) (heads_below heads sources bound) message
    (head-listed heads sources bound place message (omega arith) asked e))
    (cases_eq place bound)

-- they are of different stations

spread_more :
    (asked : Bool) (head : Option Message) (messages : List Message)
    → ((first other : Message) → head ≡ Some first → On other messages → first.station ≡ other.station → ⊥)
    → Spread messages → Spread (add_head asked head messages)
spread_more true (Some first) messages differ spread = ((λ other on. differ first other refl on), spread)
spread_more true None messages differ spread = spread
spread_more false head messages differ spread = spread

listed_spread :
    (heads : HeadsOf) (sources bound : ℕ) → ByStation heads → Spread (heads_below heads sources bound)
unfolding heads_below
listed_spread heads sources zero named = tt
listed_spread heads sources (suc place) named =
    spread_more (has sources place) (heads (suc place)) (heads_below heads sources place)
    (λ first other e on same.
    let found = listed-head heads sources place other on in
    let own = named (suc place) first e in
    let theirs = named (suc found.0) other found.3 in
    apart first.station other.station found.0 place own theirs found.1 same)
    (listed_spread heads sources place named)
  where
    apart : (a b j k : ℕ) → a ≡ suc k → b ≡ suc j → j < k → a ≡ b → ⊥
    apart a b j k own theirs below same = omega arith

computed :
    (order : TieMeaning) (wave : ℕ) (heads : HeadsOf) (sources : ℕ)
    → Lawful order → order.n ≤ 16 → 1 ≤ wave → ByStation heads → OfGroup order.n sources
    → IsWave order wave heads sources (wave_of order wave heads sources)
unfolding wave_of
computed order wave heads sources lawful small from_one named group = grind (arith, common_steps, sorted_on, listed-head, on_sorted, head-listed, sorted_ascending, listed_spread)

pub waves_are_one : WavesAreOne
waves_are_one order wave heads sources lawful small from_one named group =
    let wave_is = computed order wave heads sources lawful small from_one named group in (
      wave_is,
      λ messages other.
          one_list order wave lawful from_one messages (wave_of order wave heads sources)
          other.ascending wave_is.ascending
          (λ message on. wave_is.all_heads message (other.only_heads message on))
          (λ message on. other.all_heads message (wave_is.only_heads message on)),
    )
