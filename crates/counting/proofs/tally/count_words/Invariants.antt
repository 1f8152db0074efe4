-- `tally::count_words` meets its contract: the words passed.
use Prim.Native.Nat.{◌*◌, ◌≤◌, ◌-◌}
use mathlib.Core.Path.{◌≡◌}
use Rattle.counting.specs.Sample.{sum_to}
use Rattle.counting.specs.Tally.{word_at, word_with, ones_in}
use Rattle.counting.proofs.tally.count_words.Given as goal

abbrev pub invariant-loop-t : goal.invariant-loop-t
invariant-loop-t l = (l.t ≤ l.m) × (l.sum ≡ sum_to (ones_in (word_with (word_at l.acc) l.row l.flip)) l.t) × (l.sum ≤ 64 * l.t)

abbrev pub decreases-loop-t : goal.decreases-loop-t
decreases-loop-t l = l.m - l.t
