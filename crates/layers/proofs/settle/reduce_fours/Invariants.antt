-- `settle::reduce_fours` meets its contract: four after four.
use Prim.Native.Nat.{◌*◌}
use Rattle.layers.proofs.InFours.{FoursTo}
use Rattle.layers.proofs.settle.reduce_fours.Given as goal

abbrev pub invariant-loop-four : goal.invariant-loop-four
invariant-loop-four l = FoursTo (4 * l.four) l.initial.bins l.bins
