-- `refusal::tested_blocks` meets its contract.
use Rattle.judging.specs.Split.{first_blocks}
use Rattle.sweeping.specs.Pair.{tested_blocks}
use Rattle.sweeping.proofs.refusal.tested_blocks.Goals as goal

pub returns : goal.returns
unfolding tested_blocks first_blocks
returns c = c.min.ensures
