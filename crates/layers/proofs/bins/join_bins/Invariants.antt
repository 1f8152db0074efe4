-- `bins::join_bins` meets its contract: entry by entry.
use Prim.Native.Nat.{◌+◌, ◌≤◌}
use mathlib.Core.Path.{◌≡◌}
use lib.ListN.{length, get_or, drop}
use Rattle.counting.proofs.Marks.{Stored}
use Rattle.layers.proofs.bins.join_bins.Given as goal

abbrev pub invariant-loop-v : goal.invariant-loop-v
invariant-loop-v l =
    (l.v ≤ l.half) × (length l.bins ≡ length l.initial.bins) × (drop l.half l.bins ≡ drop l.half l.initial.bins) × Stored (λ u. get_or l.initial.bins u 0 + get_or l.initial.bins (l.half + u) 0) l.initial.bins l.v l.bins
