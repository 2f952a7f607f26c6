-- What a station has released is a beginning of what it has accepted. Assumes nothing.
use Rattle.std.proofs.Common.{◌≡◌, ℕ, zero, suc, ◌≤◌, List, is_some, Some, Option, refl, ap, arith}
use Rattle.wire.specs.declared.message.Message.{Message}
use Rattle.model.specs.Accepted.{accepted_as, tally}
use Rattle.model.specs.Sound.{Sound}
use Rattle.model.specs.States.{State, on_roll, released}
use Rattle.model.specs.Waves.{On}
use Rattle.model.proofs.Followed.{some-message}
use Rattle.model.proofs.Pushed.{found-is}

-- the message that a list has of a station under a number is on it, and of that station and number
pub listed-message :
    (messages : List Message) (station number : ℕ) (message : Message)
    → accepted_as messages station number ≡ Some message
    → On message messages × (message.station ≡ station) × (message.number ≡ number)
listed-message messages station number message e =
    let found = found-is messages station number message e in (found.listed, found.station_is, found.number_is)

-- of no station more is released than accepted
pub released-fewer :
    (state : State) → Sound state → (station : ℕ) → released state station ≤ tally state.accepted station
released-fewer state sound station = by_count (released state station) refl
  where
    by_count : (number : ℕ) → released state station ≡ number → number ≤ tally state.accepted station
    by_count zero e = omega arith
    by_count (suc before) e =
        let out = (sound.begun.gapless station (suc before)).1 (omega arith, omega (arith, e)) in
        let found = some-message (accepted_as (on_roll state.roll) station (suc before)) out in
        let listed = listed-message (on_roll state.roll) station (suc before) found.0 found.1 in
        let there = ap (λ (o : Option Message). is_some o) (sound.begun.accepted found.0 listed.0) in
        let range = (sound.kept.gapless found.0.station found.0.number).0 there in
        let of = ap (tally state.accepted) listed.1 in
        omega (arith, range.1, listed.2, of)
