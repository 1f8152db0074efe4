-- `evaluation::sum_first` meets its contract: the sum is that of the counts of the order gone over.
use mathlib.Core.Path.{◌≡◌}
use Rattle.judging.specs.Evaluation.{positive_of}
use Rattle.judging.proofs.evaluation.sum_first.Given as goal

abbrev pub invariant-loop-bin : goal.invariant-loop-bin
invariant-loop-bin l = l.sum ≡ positive_of l.bins l.order l.bin-index
