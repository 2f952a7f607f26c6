use Rattle.rules.specs.LeadLaws.{lead_station_lawful}
use Rattle.rules.specs.LeadMade.{lead_made}
use Rattle.rules.proofs.lead_station.LeadStation.new.Goals as goal

pub returns-then-not-may_lead-clause-lawful : goal.returns-then-not-may_lead-clause-lawful
returns-then-not-may_lead-clause-lawful c = lead_station_lawful

pub returns : goal.returns
returns c = record { made = lead_made _; lawful = lead_station_lawful }
