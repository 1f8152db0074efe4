-- `rows::and_to` meets its contract: word by word up to the row's end.
use Prim.Native.Nat.{◌≤◌, ◌-◌}
use mathlib.Core.Path.{◌≡◌}
use lib.ListN.{length}
use Rattle.counting.specs.Tally.{word_at, word_with}
use Rattle.counting.proofs.Marks.{Stored}
use Rattle.counting.proofs.rows.and_to.Given as goal

abbrev pub invariant-loop-t : goal.invariant-loop-t
invariant-loop-t l = (l.t ≤ length l.row) × (length l.to ≡ length l.initial.to) × Stored (word_with (word_at l.acc) l.row l.flip) l.initial.to l.t l.to

abbrev pub decreases-loop-t : goal.decreases-loop-t
decreases-loop-t l = length l.row - l.t
