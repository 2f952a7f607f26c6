use Rattle.std.proofs.Common.{refl}
use Rattle.lone_source.specs.Laws.{lone_sources_are_lawful}
use Rattle.lone_source.proofs.LoneSource.over.Goals as goal

pub returns : goal.returns
returns g c = record { lower = refl; lawful = lone_sources_are_lawful }
