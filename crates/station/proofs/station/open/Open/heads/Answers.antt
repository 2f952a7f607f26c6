use Rattle.std.proofs.Common.{◌≡◌, ℕ, suc, ◌+◌, ◌<◌, get_or, set, None, refl, sym, ap, ◌∙◌, ap₂, subst, add-one, arith, rules}
use Rattle.std.proofs.lemmas.List.Edits.{fill_by_more}
use Rattle.std.proofs.lemmas.List.{length-set}
use Rattle.model.specs.Heads.{head}
use Rattle.model.specs.States.{known, released}
use Rattle.station.specs.Standing.{state_of_station}
use Rattle.station.proofs.Boarded.{released_small, released_told}
use Rattle.station.proofs.station.open.Open.heads.Goals as goal

pub overflow_add-station : goal.overflow_add-station
overflow_add-station c =
    let small = released_small c.args.self.now.station.now c.args.self.now.live c.loop-place.place c.loop-place-test.true in search rules

pub loop-place-init : goal.loop-place-init
loop-place-init c = (refl, λ k none. absurd (omega arith))

pub loop-place-preserved : goal.loop-place-preserved
loop-place-preserved c =
    let state = state_of_station c.args.self.now.station.now in
    let items = c.loop-place.head-items in
    let place = c.loop-place.place in
    let more =
    fill_by_more (λ k. head (known state) (released state) (suc k)) items place None (omega arith) c.loop-place.invariant.1 in
    let told =
    c.find.ensures
    ∙ ap₂ (known state) (add-one place)
    (add-one (get_or c.args.self.now.station.now.released place 0)
    ∙ ap suc (released_told c.args.self.now.station.now place c.loop-place-test.true)) in (
      length-set items place c.find.result ∙ c.loop-place.invariant.0,
      subst
          (λ one. (k : ℕ) → k < place + 1 → get_or (set items place one) k None ≡ head (known state) (released state) (suc k))
          (sym told) more,
    )

pub returns : goal.returns
returns c = λ place below. c.loop-place.invariant.1 place (omega arith)
