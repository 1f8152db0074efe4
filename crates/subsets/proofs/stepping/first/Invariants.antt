-- `stepping::first` meets its contract. The loop's invariant: the first i entries are 0, 1, .., i - 1.
use mathlib.Core.Path.{◌≡◌}
use lib.ListN.{length, take}
use Rattle.subsets.specs.Subsets.{numbers_from}
use Rattle.subsets.proofs.stepping.first.Given as goal

abbrev pub invariant-loop-i : goal.invariant-loop-i
invariant-loop-i l = (length l.bit-items ≡ l.k) × (take l.i l.bit-items ≡ numbers_from 0 l.i)
