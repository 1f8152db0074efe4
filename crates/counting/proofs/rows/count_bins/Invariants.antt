-- `rows::count_bins` meets its contract: the blocks of the chunks passed are counted.
use Prim.Native.Nat.{ℕ, ◌+◌, ◌-◌, ◌*◌, ◌/◌, ◌≤◌, ◌<◌}
use mathlib.Core.Path.{◌≡◌}
use lib.ListN.{length, get_or}
use Rattle.counting.specs.Sample.{count_in}
use Rattle.counting.specs.Stretch.{stretch_bit}
use Rattle.counting.specs.Rows.{MarkedFrom}
use Rattle.counting.proofs.Stretches.{span_before}
use Rattle.counting.proofs.rows.count_bins.Given as goal

abbrev pub invariant-loop-start : goal.invariant-loop-start
invariant-loop-start l =
    (l.stretch.first < 64 * l.start + 64) × (l.stretch.first / 64 ≤ l.start) × (length l.bins ≡ length l.initial.bins) × (length l.acc ≡ length l.initial.acc)
    × MarkedFrom (l.stretch.first - 64 * l.start) l.acc
    × ((v : ℕ) → v < length l.bins → get_or l.bins v 0 ≡ count_in (stretch_bit l.stretch l.words) (span_before l.stretch l.start) l.bits v)

abbrev pub decreases-loop-start : goal.decreases-loop-start
decreases-loop-start l = l.start-end - l.start
