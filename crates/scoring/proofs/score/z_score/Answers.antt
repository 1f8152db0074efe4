-- `score::z_score` meets its contract: those of `z_over` and `deviation`, one after the other.
use mathlib.Core.Path.{ap, ◌∙◌}
use lib.Ieee.{Float}
use Rattle.scoring.specs.Score.{z_over, z_score}
use Rattle.scoring.proofs.score.z_score.Goals as goal

pub returns : goal.returns
unfolding z_score
returns c =
    let a = c.args in
    c.z_over.ensures ∙ ap (λ (d : Float). z_over a.n a.c a.p d) c.deviation.ensures
