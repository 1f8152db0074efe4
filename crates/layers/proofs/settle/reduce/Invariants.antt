-- `settle::reduce` meets its contract: entry by entry.
use Prim.Native.Nat.{◌≤◌}
use mathlib.Core.Path.{◌≡◌}
use lib.ListN.{length}
use Rattle.layers.specs.Settle.{Reduced}
use Rattle.layers.proofs.settle.reduce.Given as goal

abbrev pub invariant-loop-i : goal.invariant-loop-i
invariant-loop-i l = (l.i ≤ l.step) × (length l.bins ≡ length l.initial.bins) × Reduced l.at l.step l.i l.initial.bins l.bins
