-- `choose::choose_lower` meets its contract. The loop's invariant: c is n choose i, and at most 2^32.
use Prim.Native.Nat.{◌^◌, ◌≤◌}
use mathlib.Core.Path.{◌≡◌}
use Rattle.subsets.specs.Choose.{choose}
use Rattle.subsets.proofs.choose.choose_lower.Given as goal

abbrev pub invariant-loop-i : goal.invariant-loop-i
invariant-loop-i l = (l.c ≡ choose l.n l.i) × (l.c ≤ 2 ^ 32)
