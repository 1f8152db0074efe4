-- `feeding::next_head` meets its contract.
use mathlib.Core.Path.{refl}
use Rattle.sampling.specs.Feeding.{next_head}
use Rattle.sampling.proofs.feeding.next_head.Goals as goal

pub returns : goal.returns
unfolding next_head
returns c = refl
