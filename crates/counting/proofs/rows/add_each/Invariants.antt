-- `rows::add_each` meets its contract: the counts passed have grown.
use Prim.Native.Nat.{◌+◌, ◌*◌}
use mathlib.Core.Path.{◌≡◌}
use mathlib.Core.List.{[], ◌∷◌}
use lib.ListN.{length, get_or}
use Rattle.counting.specs.Sample.{onward}
use Rattle.counting.specs.Tally.{lane_of, word_at}
use Rattle.counting.specs.Words.{stored_bit}
use Rattle.counting.specs.Rows.{marked_in}
use Rattle.counting.proofs.Marks.{Stored}
use Rattle.counting.proofs.rows.add_each.Given as goal

abbrev pub invariant-loop-j : goal.invariant-loop-j
invariant-loop-j l =
    (length l.counts ≡ length l.initial.counts)
    × Stored (λ u. get_or l.initial.counts u 0 + marked_in (lane_of (word_at l.acc)) (onward (64 * l.chunk.start) (stored_bit l.chunk.stride l.words)) ((l.next + u) ∷ []) l.chunk.lanes 1) l.initial.counts l.j l.counts
