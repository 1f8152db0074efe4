-- `records::pattern` meets its contract: NaN has the pattern of the quiet one, and every other double has its bits.
use mathlib.Core.Path.{◌≡◌, refl, sym, ◌∙◌}
use mathlib.Core.Bool.{true, true≢false}
use lib.Ieee.{Float, nan, inf, fin, binary64, to_bits, is_nan}
use Rattle.std.proofs.lemmas.Float.{T_from_false}
use Rattle.exports.proofs.records.pattern.Goals as goal

nan_bits : (x : Float) → is_nan x ≡ true → 9221120237041090560 ≡ to_bits binary64 x
unfolding is_nan to_bits
nan_bits nan e = refl
nan_bits (inf s) e = absurd (true≢false (sym e))
nan_bits (fin s m k) e = absurd (true≢false (sym e))

pub returns-then-is_nan : goal.returns-then-is_nan
returns-then-is_nan c = nan_bits c.args.z (sym c.is_nan.ensures.value ∙ c.if-is_nan.true)

pub float_to_bits-result : goal.float_to_bits-result
float_to_bits-result c = T_from_false _ (sym c.is_nan.ensures.value ∙ c.if-is_nan.false)
