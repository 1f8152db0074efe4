-- `rows::unmark` meets its contract: the first lanes are cleared in the first word.
use mathlib.Core.Path.{refl}
use lib.ListN.{length-set}
use Rattle.counting.proofs.Stretches.{marked_cut}
use Rattle.counting.proofs.rows.unmark.Goals as goal

pub returns : goal.returns
returns c =
    let a = c.args in
    λ e h. marked_cut a.acc.now a.skip _ e c.requires.skip_bound.1 c.requires.skip_bound.0 refl (c.requires.marked_from e (simp length-set at h))
