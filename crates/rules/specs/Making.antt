-- What making a rule answers: 12 for an n that no group has, or a station that may not lead. Assumes nothing.
use Rattle.std.specs.Prelude.{◌≡◌, ℕ, Bool, true, false, cond, Ok, Err, Result, refl}
use Rattle.wire.specs.declared.fault.Fault.{Fault}
use Rattle.wire.specs.declared.fault.Fault.TheVariants.{Setting}
use Rattle.board.specs.Ballots.{is_group}
use Rattle.rules.specs.Chosen.{may_lead}
use Rattle.rules.specs.declared.roll_call.RollCall.{RollCall}
use Rattle.rules.specs.declared.lead_station.LeadStation.{LeadStation}

-- roll call for n
abbrev pub roll_call_of : ℕ → Result RollCall Fault
roll_call_of n = cond (is_group n) (Ok (record { n = n })) (Err Setting)

-- decided by whether the station may lead, which the rule then holds
abbrev pub lead_decided : (n station : ℕ) (may : Bool) → may_lead n station ≡ may → Result LeadStation Fault
lead_decided n station true e = Ok (record { n = n; station = station; chosen = e })
lead_decided n station false e = Err Setting

-- the rule for n in which a station leads
abbrev pub lead_station_of : ℕ → ℕ → Result LeadStation Fault
lead_station_of n station = lead_decided n station (may_lead n station) refl
