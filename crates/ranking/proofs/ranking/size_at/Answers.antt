-- `ranking::size_at` meets its contract, from what its callees ensure.
use mathlib.Core.Path.{ap, ap₂, ◌∙◌}
use lib.Ieee.{Float}
use Rattle.scoring.specs.Score.{abs, z_over, z_score}
use Rattle.ranking.proofs.ranking.size_at.Goals as goal

pub returns : goal.returns
unfolding z_score
returns c =
    c.absolute.ensures ∙ ap abs (c.z_over.ensures
    ∙ ap₂ (λ (p d : Float). z_over c.args.n c.args.c p d) c.share_by.ensures c.root_at.ensures)
