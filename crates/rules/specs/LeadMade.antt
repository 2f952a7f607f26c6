-- Making the rule of a lead station. Assumes nothing.
use Rattle.std.specs.Prelude.{◌≡◌, ℕ, ◌≤◌, Bool, true, false, ◌&&◌, Ok, Err, Result, nat_le, refl}
use Rattle.std.proofs.Math.Bool.{Bool-set}
use Rattle.std.proofs.Common.{sym, ap}
use Rattle.std.proofs.lemmas.Bool.{and_parts, leb-true, true≢false}
use Rattle.wire.specs.declared.fault.Fault.{Fault}
use Rattle.wire.specs.declared.fault.Fault.TheVariants.{Setting}
use Rattle.board.specs.Ballots.{is_group}
use Rattle.rules.specs.Chosen.{may_lead}
use Rattle.rules.specs.Making.{lead_decided, lead_station_of}
use Rattle.rules.specs.declared.lead_station.LeadStation.{LeadStation}

refused : (n station : ℕ) (may : Bool) (e : may_lead n station ≡ may) → may ≡ false → lead_decided n station may e ≡ Err Setting
refused n station false e none = refl
refused n station true e none = absurd (true≢false none)

pub lead_refused : (n station : ℕ) → false ≡ may_lead n station → Err Setting ≡ lead_station_of n station
lead_refused n station e = sym (refused n station (may_lead n station) refl (sym e))

alike :
    (n station : ℕ) (e f : may_lead n station ≡ true)
    → ◌≡◌ {A = LeadStation} (record { n = n; station = station; chosen = e }) (record { n = n; station = station; chosen = f })
alike n station e f = λ i. record { n = n; station = station; chosen = Bool-set (may_lead n station) true e f i }

made :
    (rule : LeadStation) (may : Bool) (e : may_lead rule.n rule.station ≡ may) → may ≡ true
    → lead_decided rule.n rule.station may e ≡ Ok rule
made rule true e holds = ap (λ (r : LeadStation). ok r) (alike rule.n rule.station e rule.chosen)
  where
    ok : LeadStation → Result LeadStation Fault
    ok r = Ok r
made rule false e holds = absurd (true≢false (sym holds))

pub lead_made : (rule : LeadStation) → Ok rule ≡ lead_station_of rule.n rule.station
lead_made rule = sym (made rule (may_lead rule.n rule.station) refl rule.chosen)

-- the station that leads is one of the group
pub leads_first : (rule : LeadStation) → 1 ≤ rule.station
leads_first rule =
    leb-true 1 rule.station
    (and_parts (nat_le 1 rule.station) (nat_le rule.station rule.n)
    (and_parts (is_group rule.n) (nat_le 1 rule.station && nat_le rule.station rule.n) rule.chosen).1).0

pub leads_last : (rule : LeadStation) → rule.station ≤ rule.n
leads_last rule =
    leb-true rule.station rule.n
    (and_parts (nat_le 1 rule.station) (nat_le rule.station rule.n)
    (and_parts (is_group rule.n) (nat_le 1 rule.station && nat_le rule.station rule.n) rule.chosen).1).1
