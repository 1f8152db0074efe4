-- `score::absolute` meets its contract, at every double.
use mathlib.Core.Path.{◌∙◌}
use Rattle.scoring.proofs.Sign.{abs_is}
use Rattle.scoring.proofs.score.absolute.Goals as goal

pub returns : goal.returns
returns c = c.abs.ensures.value ∙ abs_is c.args.z
