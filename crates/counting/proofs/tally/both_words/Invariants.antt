-- `tally::both_words` meets its contract: the words passed.
use Prim.Native.Nat.{◌*◌, ◌≤◌, ◌-◌}
use mathlib.Core.Path.{◌≡◌}
use Rattle.counting.specs.Sample.{sum_to}
use Rattle.counting.specs.Tally.{word_at, word_with, ones_in}
use Rattle.counting.proofs.tally.both_words.Given as goal

abbrev pub invariant-loop-t : goal.invariant-loop-t
invariant-loop-t l =
    (l.t ≤ l.m)
    × ((l.without ≡ sum_to (ones_in (word_with (word_with (word_at l.acc) l.high l.flip) l.low 18446744073709551615)) l.t) × (l.without ≤ 64 * l.t))
    × ((l.with ≡ sum_to (ones_in (word_with (word_with (word_at l.acc) l.high l.flip) l.low 0)) l.t) × (l.with ≤ 64 * l.t))

abbrev pub decreases-loop-t : goal.decreases-loop-t
decreases-loop-t l = l.m - l.t
