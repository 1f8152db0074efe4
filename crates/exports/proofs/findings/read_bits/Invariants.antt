-- `findings::read_bits` meets its contract. The loop's invariant: the first i bits are read, and the rest is as it was.
use mathlib.Core.Path.{◌≡◌}
use mathlib.Core.List.{◌++◌}
use Prim.Native.Nat.{◌≤◌}
use lib.ListN.{length, take, drop, replicate}
use Rattle.exports.proofs.findings.read_bits.Given as goal

abbrev pub invariant-loop-i : goal.invariant-loop-i
invariant-loop-i l = (l.i ≤ length l.lent) × (l.bits ≡ take l.i l.lent ++ drop l.i (replicate 20 0))
