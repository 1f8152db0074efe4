-- `progress::counted` meets its contract.
use mathlib.Core.Path.{◌≡◌, ◌∙◌}
use mathlib.Core.Bool.{◌||◌}
use native.Mathlib.Numerals.{add-one}
use lib.Dec.{ltb}
use Rattle.sweeping.specs.Progress.{counted}
use Rattle.sweeping.proofs.progress.counted.Goals.{then-progress, else-progress}
use Rattle.sweeping.proofs.progress.counted.Goals as goal

pub returns : goal.returns
unfolding counted
returns c =
    let below : c.if-progress.result ≡ (c.args.progress.below || ltb c.args.tested.low c.args.share) = elim c.if-progress.branch [ then-progress w ↦ w.result-is ∙ simp w.if-progress.true | else-progress w ↦ w.result-is ∙ simp w.if-progress.false ] in
    rw (add-one, below, c.lowest_of.ensures)
