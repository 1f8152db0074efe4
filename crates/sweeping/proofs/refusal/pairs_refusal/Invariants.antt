-- `refusal::pairs_refusal` meets its contract. The loop's invariant: none of the pairs gone over is refused.
use mathlib.Core.Path.{◌≡◌}
use Rattle.std.specs.Prelude.{Ok}
use Rattle.judging.specs.Plan.{as_plan}
use Rattle.sweeping.specs.Refusal.{pairs_refusal}
use Rattle.sweeping.proofs.refusal.pairs_refusal.Given as goal

abbrev pub invariant-loop-pair : goal.invariant-loop-pair
invariant-loop-pair l = pairs_refusal (as_plan (Ok l.fn.plan)) l.bytes l.room l.pair-index ≡ 0
