use Rattle.model.proofs.WaveLaws.{waves_are_one}
use Rattle.model.proofs.waves.is_before.Goals as goal

pub returns-clause-one_wave : goal.returns-clause-one_wave
returns-clause-one_wave g c = waves_are_one
