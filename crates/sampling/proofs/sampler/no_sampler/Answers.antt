-- `sampler::no_sampler` meets its contract.
use mathlib.Core.Bool.{false}
use mathlib.Core.List.{[], ◌∷◌}
use Rattle.sampling.proofs.sampler.no_sampler.Goals as goal

pub returns : goal.returns
returns c = λ i. record {
  head = record { block_size = 0; words = 0; blocks = 0; low_first = false; lengths = 0 ∷ 0 ∷ 0 ∷ 0 ∷ [] };
  unfinished = c.filled-unfinished.ensures i;
}
