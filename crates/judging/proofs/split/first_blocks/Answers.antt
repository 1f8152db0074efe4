-- `split::first_blocks` meets its contract: each way goes by the test of training.
use Rattle.judging.specs.Split.{first_blocks}
use Rattle.judging.proofs.split.first_blocks.Goals as goal

pub returns-then-training : goal.returns-then-training
unfolding first_blocks
returns-then-training c = simp c.if-training.true

pub returns-else-training : goal.returns-else-training
unfolding first_blocks
returns-else-training c = simp c.if-training.false
