-- `plan::configurations` meets its contract. The loop's invariant: the pairs so far are written, and the sizes from `size` on are left.
use mathlib.Core.Path.{◌≡◌}
use mathlib.Core.Bool.{true}
use Prim.Native.Nat.{suc, ◌-◌, max}
use Rattle.counting.specs.Block.{valid_size}
use Rattle.judging.specs.Plan.{sizes_in, widths_in}
use Rattle.judging.proofs.Planning.{Planned}
use Rattle.judging.proofs.plan.configurations.Given as goal

abbrev pub invariant-loop-size : goal.invariant-loop-size
invariant-loop-size l =
    (Planned l.block_size l.data_size l.top l.pairs l.size (sizes_in l.sizes) (widths_in l.sizes)) × ((l.top ≡ max l.block_size 512) × (valid_size l.block_size ≡ true))

abbrev pub decreases-loop-size : goal.decreases-loop-size
decreases-loop-size l = suc l.top - l.size
