-- `records::write_bits` meets its contract. The loop's invariant: the first i bits stand after the four numbers, and the rest is as lent.
use mathlib.Core.Path.{◌≡◌}
use mathlib.Core.List.{◌++◌}
use Prim.Native.Nat.{◌+◌, ◌≤◌}
use lib.ListN.{length, take, drop}
use Rattle.exports.proofs.records.write_bits.Given as goal

abbrev pub invariant-loop-i : goal.invariant-loop-i
invariant-loop-i l = (l.i ≤ length l.bits) × (length l.numbers ≡ length l.initial.numbers) × (l.numbers ≡ (take 4 l.initial.numbers ++ take l.i l.bits) ++ drop (4 + l.i) l.initial.numbers)
