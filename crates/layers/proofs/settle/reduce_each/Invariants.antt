-- `settle::reduce_each` meets its contract: run after run.
use Prim.Native.Nat.{◌*◌}
use Rattle.layers.proofs.Reducing.{Through}
use Rattle.layers.proofs.settle.reduce_each.Given as goal

abbrev pub invariant-loop-turn : goal.invariant-loop-turn
invariant-loop-turn l = Through l.step (l.turn * (2 * l.step)) l.initial.bins l.bins
