-- `root::positive_root` meets its contract: m * 2 ^ e does not change. The measure is e.
use Rattle.scoring.proofs.Rooting.{Same}
use Rattle.scoring.proofs.root.positive_root.Given as goal

abbrev pub invariant-loop-m : goal.invariant-loop-m
invariant-loop-m l = Same l.m0 l.e0 l.m l.e

abbrev pub decreases-loop-m : goal.decreases-loop-m
decreases-loop-m l = l.e
