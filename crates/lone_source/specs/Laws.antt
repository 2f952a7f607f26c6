-- One source over a lawful rule is lawful. Assumes nothing.
use Rattle.std.specs.Prelude.{◌≡◌, ℕ, not, Some, None, Option, refl}
use Rattle.std.proofs.Common.{sym, ap, ◌∙◌, arith}
use Rattle.std.proofs.lemmas.Bool.{and_from, and_parts, not_from_false}
use Rattle.board.specs.Sets.{has, some, mask}
use Rattle.board.specs.Rules.{RuleMeaning, Lawful, SourcesAreCandidates, SomeSource, SettlesWhenAllPresent}
use Rattle.board.proofs.Digits.{has-mask, has-below, mask_below}
use Rattle.board.proofs.Facts.{candidate-place}
use Rattle.board.proofs.Places.{some-from}
use Rattle.lone_source.specs.Lowest.{leads_set, lowest_of, lone, lone_source, LoneSourcesAreLawful}
use Rattle.lone_source.specs.Least.{least}

-- what an answer says: the rule below is settled, and this is its lowest source
told : (answer : Option ℕ) (sources : ℕ) → lone answer ≡ Some sources → (below : ℕ) × (answer ≡ Some below) × (lowest_of below ≡ sources)
told None sources e = let z : ◌≡◌ {A = ℕ} 0 1 = cc in absurd (omega arith)
told (Some below) sources e = (below, refl, cc)

module _ (below : RuleMeaning) (lawful : Lawful below) where
  candidates : SourcesAreCandidates (lone_source below)
  candidates board sources place e has_it =
      let parts = told (below.answer board) sources e in
      let inside = ap (λ s. has s place) parts.2 ∙ has_it in
      let at = has-below 16 (mask (leads_set parts.0) 16) place (mask_below (leads_set parts.0) 16) inside in
      lawful.sources_are_candidates board parts.0 place parts.1
      (and_parts (has parts.0 place) (not (some (has parts.0) place))
      (sym (has-mask (leads_set parts.0) 16 place at) ∙ inside)).0

  one_source : SomeSource (lone_source below)
  one_source board sources e =
      let parts = told (below.answer board) sources e in
      let source = lawful.some_source board parts.0 parts.1 in
      let at = candidate-place board source.0 (lawful.sources_are_candidates board parts.0 source.0 parts.1 source.1) in
      let found = least (has parts.0) 16 (some-from (has parts.0) 16 source.0 at source.1) in (
        found.0,
        sym (ap (λ s. has s found.0) parts.2) ∙ has-mask (leads_set parts.0) 16 found.0 found.1
            ∙ and_from (has parts.0 found.0) (not (some (has parts.0) found.0)) found.2
            (not_from_false (some (has parts.0) found.0) found.3),
      )

  complete : SettlesWhenAllPresent (lone_source below)
  complete board same all =
      let found = lawful.settles_when_all_present board same all in
      (lowest_of found.0, ap lone found.1)

pub lone_sources_are_lawful : LoneSourcesAreLawful
lone_sources_are_lawful below lawful =
    record {
      only_its_group = λ board apart. ap lone (lawful.only_its_group board apart);
      sources_are_candidates = candidates below lawful;
      some_source = one_source below lawful;
      stays_settled =
          λ board wider sources extends e.
          let parts = told (below.answer board) sources e in
          ap lone (lawful.stays_settled board wider parts.0 extends parts.1) ∙ ap (λ (s : ℕ). named s) parts.2;
      settles_when_all_present = complete below lawful;
    }
  where
    named : ℕ → Option ℕ
    named s = Some s
