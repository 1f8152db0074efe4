-- `ranking::divide` meets its contract. The invariant: best is the best of the divisions before i, and c the sum of the first i - 1 counts in bin order.
use mathlib.Core.Path.{◌≡◌}
use Prim.Native.Nat.{◌-◌}
use lib.ListN.{take}
use lib.Ieee.{lt}
use Rattle.ranking.specs.Peak.{peak}
use Rattle.counting.specs.Sample.{total}
use Rattle.ranking.specs.Ranking.{in_bin_order, size_at, zero_score, as_ranking}
use Rattle.ranking.proofs.ranking.divide.Given as goal

abbrev pub invariant-loop-i : goal.invariant-loop-i
invariant-loop-i l =
    (l.best ≡ as_ranking (peak lt zero_score (size_at l.n l.k (in_bin_order l.bins)) (l.i - 1))) × (l.c ≡ total (take (l.i - 1) (in_bin_order l.bins)))
