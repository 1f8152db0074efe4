-- `sweep::sweep_pairs` meets its contract. The loop's invariant: the progress after the pairs gone over.
use mathlib.Core.Path.{◌≡◌}
use Rattle.std.specs.Prelude.{Ok}
use Rattle.judging.specs.Plan.{as_plan}
use Rattle.sweeping.specs.Progress.{progress_to}
use Rattle.sweeping.proofs.sweep.sweep_pairs.Given as goal

abbrev pub invariant-loop-planned : goal.invariant-loop-planned
invariant-loop-planned l = l.progress ≡ progress_to l.share (as_plan (Ok l.fn.plan)) l.low_first l.raw l.planned-index
