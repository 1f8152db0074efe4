-- `carrying::Lane::bit` meets its contract: the bit's word lies within the words.
use mathlib.Core.Path.{refl}
use Rattle.counting.specs.Words.{stored_bit}
use Rattle.sampling.proofs.carrying.Lane.bit.Goals as goal

pub returns : goal.returns
unfolding stored_bit
returns c = refl
