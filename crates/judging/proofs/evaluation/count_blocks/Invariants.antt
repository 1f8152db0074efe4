-- `evaluation::count_blocks` meets its contract: before turn e the bins are the counts of the first e blocks.
use mathlib.Core.Path.{◌≡◌}
use Rattle.counting.specs.Recording.{recorded_bit}
use Rattle.counting.specs.Sample.{counts_of}
use Rattle.judging.proofs.evaluation.count_blocks.Given as goal

abbrev pub invariant-loop-e : goal.invariant-loop-e
invariant-loop-e l =
    l.bins ≡ counts_of (recorded_bit l.block_size l.low_first l.bytes) l.e l.bits
