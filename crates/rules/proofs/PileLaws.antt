-- Every pile of thresholds over a lawful rule is lawful. Assumes nothing.
use Rattle.std.proofs.Common.{[], ◌∷◌}
use Rattle.rules.specs.Piles.{pile, PilesAreLawful}
use Rattle.rules.specs.ThresholdLaws.{threshold_lawful}

pub piles_are_lawful : PilesAreLawful
piles_are_lawful [] rule lawful = lawful
piles_are_lawful (phi ∷ phis) rule lawful = threshold_lawful phi (pile phis rule) (piles_are_lawful phis rule lawful)
