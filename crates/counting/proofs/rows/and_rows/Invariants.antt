-- `rows::and_rows` meets its contract: the marks of the blocks that have the bits passed set.
use Prim.Native.Nat.{◌*◌, ◌-◌}
use mathlib.Core.Path.{◌≡◌}
use lib.ListN.{length, take}
use Rattle.counting.specs.Sample.{onward}
use Rattle.counting.specs.Tally.{lane_of, word_at}
use Rattle.counting.specs.Words.{stored_bit}
use Rattle.counting.specs.Rows.{Marks}
use Rattle.counting.proofs.rows.and_rows.Given as goal

abbrev pub invariant-loop-i : goal.invariant-loop-i
invariant-loop-i l =
    (length l.acc ≡ length l.initial.acc) × Marks (lane_of (word_at l.initial.acc)) l.acc (onward (64 * l.chunk.start) (stored_bit l.chunk.stride l.words)) (take l.i l.bits) l.chunk.lanes

abbrev pub decreases-loop-i : goal.decreases-loop-i
decreases-loop-i l = l.i-end - l.i
