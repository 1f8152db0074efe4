-- `rankings::blocks` meets its contract: the sum so far.
use mathlib.Core.Path.{◌≡◌}
use lib.ListN.{take}
use Rattle.counting.specs.Sample.{total}
use Rattle.searching_cases.proofs.rankings.blocks.Given as goal

abbrev pub invariant-loop-count : goal.invariant-loop-count
invariant-loop-count l = l.n ≡ total (take l.count-index l.bins)
