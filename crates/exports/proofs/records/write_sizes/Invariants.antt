-- `records::write_sizes` meets its contract. The loop's invariant: the first i sizes stand at their place, and the rest is as lent.
use mathlib.Core.Path.{◌≡◌}
use mathlib.Core.List.{◌++◌}
use Prim.Native.Nat.{◌+◌, ◌≤◌}
use lib.ListN.{length, take, drop}
use Rattle.exports.proofs.records.write_sizes.Given as goal

abbrev pub invariant-loop-i : goal.invariant-loop-i
invariant-loop-i l = (l.i ≤ length l.sizes) × (length l.numbers ≡ length l.initial.numbers) × (l.numbers ≡ (take l.at l.initial.numbers ++ take l.i l.sizes) ++ drop (l.at + l.i) l.initial.numbers)
