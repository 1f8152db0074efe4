-- `ranking::root_at` meets its contract: the table is right, and else the deviation is worked out.
use mathlib.Core.Path.{ap, ◌∙◌}
use Rattle.scoring.specs.Score.{deviation}
use Rattle.ranking.proofs.ranking.root_at.Goals as goal

pub returns-then-at-roots : goal.returns-then-at-roots
returns-then-at-roots c = c.requires.2 c.args.i c.requires.0 c.if-at-roots.true

pub returns : goal.returns
returns c = c.deviation.ensures ∙ ap (deviation c.args.n) c.share.ensures
