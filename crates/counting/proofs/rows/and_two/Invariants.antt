-- `rows::and_two` meets its contract: word by word up to the rows' end.
use Prim.Native.Nat.{◌≤◌, ◌-◌}
use mathlib.Core.Path.{◌≡◌}
use lib.Bits.{bit_and}
use lib.ListN.{length, get_or}
use Rattle.counting.proofs.Marks.{Stored}
use Rattle.counting.proofs.rows.and_two.Given as goal

abbrev pub invariant-loop-t : goal.invariant-loop-t
invariant-loop-t l =
    (l.t ≤ length l.row) × (length l.acc ≡ length l.initial.acc) × Stored (λ u. bit_and (bit_and (get_or l.initial.acc u 0) (get_or l.row u 0)) (get_or l.other u 0)) l.initial.acc l.t l.acc

abbrev pub decreases-loop-t : goal.decreases-loop-t
decreases-loop-t l = length l.row - l.t
