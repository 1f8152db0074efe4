-- `score::z_over` meets its contract, operation by operation.
use mathlib.Core.Path.{refl}
use Rattle.scoring.specs.Score.{z_over}
use Rattle.scoring.proofs.score.z_over.Goals as goal

pub returns : goal.returns
unfolding z_over
returns c = refl
