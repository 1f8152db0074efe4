-- `size::store_size` meets its contract. The loop's invariant: the sum over the widths up to d, exact up to 2^32.
use Prim.Native.Nat.{◌-◌, ◌*◌, ◌≤◌}
use mathlib.Core.Path.{◌≡◌}
use Rattle.subsets.specs.Choose.{up_to}
use Rattle.layers.specs.Store.{size_to}
use Rattle.layers.proofs.size.store_size.Given as goal

abbrev pub invariant-loop-d : goal.invariant-loop-d
invariant-loop-d l = (l.size ≤ l.d * 4294967297) × (up_to l.size ≡ up_to (size_to l.block_size (l.d - 1)))
