-- `single::total_of` meets its contract. The loop's invariant: the sum is that of the counts passed, each below 2 ^ 32.
use mathlib.Core.Path.{◌≡◌}
use Prim.Native.Nat.{◌*◌, ◌≤◌}
use lib.ListN.{take}
use Rattle.counting.specs.Sample.{total}
use Rattle.exports.proofs.single.total_of.Given as goal

abbrev pub invariant-loop-x : goal.invariant-loop-x
invariant-loop-x l = (l.x-index ≤ l.m) × (l.sum ≡ total (take l.x-index l.bins)) × (l.sum ≤ 4294967295 * l.x-index)
