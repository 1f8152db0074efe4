-- `score::deviation` meets its contract: `root`'s, and 1.0 by its bit pattern.
use lib.Ieee.{of_bits}
use Rattle.scoring.specs.Score.{deviation}
use Rattle.scoring.proofs.score.deviation.Goals as goal

pub returns : goal.returns
unfolding of_bits deviation
returns c = c.root.ensures
