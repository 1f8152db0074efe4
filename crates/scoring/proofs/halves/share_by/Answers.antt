-- `halves::share_by` meets its contract: a product with a power of one half is exact.
use mathlib.Core.Path.{ap, ◌∙◌}
use native.Mathlib.Omega.{arith}
use lib.IntN.{pos}
use lib.Ieee.{Float, binary64, mul, of_int}
use Rattle.scoring.proofs.Parts.{share_is}
use Rattle.scoring.proofs.halves.share_by.Goals as goal

pub returns : goal.returns
returns c =
    let a = c.args in
    ap (λ (y : Float). mul binary64 (of_int binary64 (pos a.i)) y) c.requires.1 ∙ share_is a.i a.k (omega arith) (omega arith)
