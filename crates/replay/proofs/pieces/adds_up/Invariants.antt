-- `pieces::adds_up` meets its contract: the lengths that are left add up to what is left just where all add up to all.
use mathlib.Core.Path.{◌≡◌}
use lib.Dec.{eqb}
use lib.ListN.{drop}
use Rattle.counting.specs.Sample.{total}
use Rattle.replay.proofs.pieces.adds_up.Given as goal

abbrev pub invariant-loop-n : goal.invariant-loop-n
invariant-loop-n l = eqb (total l.lengths) l.bytes ≡ eqb (total (drop l.n-index l.lengths)) l.left
