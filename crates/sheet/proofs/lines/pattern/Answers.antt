-- `lines::pattern` meets its contract: the pattern of NaN is the definition's.
use mathlib.Core.Path.{◌≡◌, sym, ap, refl, ◌∙◌}
use mathlib.Core.Bool.{true}
use lib.Ieee.{Float, binary64, to_bits, nan, inf, fin, is_nan}
use Rattle.sheet.proofs.lines.pattern.Goals as goal

nan_pattern : 9221120237041090560 ≡ to_bits binary64 nan
unfolding to_bits
nan_pattern = refl

only_nan : (z : Float) → true ≡ is_nan z → z ≡ nan
unfolding is_nan
only_nan nan h = refl
only_nan (inf s) h = cc
only_nan (fin s m e) h = cc

pub returns-then-is_nan : goal.returns-then-is_nan
returns-then-is_nan c = nan_pattern ∙ ap (to_bits binary64) (sym (only_nan c.args.z (sym c.if-is_nan.true ∙ c.is_nan.ensures.value)))
