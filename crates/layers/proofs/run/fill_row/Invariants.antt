-- `run::fill_row` meets its contract. The loop's invariant: c is m choose r, and the row stands up to r.
use mathlib.Core.Path.{◌≡◌}
use Rattle.subsets.specs.Choose.{choose}
use Rattle.layers.proofs.Running.{Row}
use Rattle.layers.proofs.run.fill_row.Given as goal

abbrev pub invariant-loop-r : goal.invariant-loop-r
invariant-loop-r l = (l.c ≡ choose l.m l.r) × Row l.at l.m l.r l.initial.run l.run
