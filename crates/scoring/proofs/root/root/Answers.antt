-- `root::root` meets its contract, at every double. Each need is a fact of `Patterns.antt`.
use mathlib.Core.Path.{refl, sym, ◌∙◌, subst}
use Prim.Native.Nat.{◌%◌, ◌<◌}
use native.Mathlib.Nat.{pos_of_ne-zero}
use native.Mathlib.Omega.{arith}
use lib.Dec.{T}
use lib.Ieee.{binary64, fits, of_bits, to_bits}
use lib.Ieee.Bits.{to_bits-lt}
use Rattle.std.proofs.lemmas.Float.{T_from_false}
use Rattle.scoring.proofs.Patterns.{nan_own, own, zero_own, minus_zero_own, inf_own, negative, subnormal, normal, normal_units, normal_scaled, below_inf}
use Rattle.scoring.proofs.root.root.Goals.{Else-b-gt9223372036854775808, Start}
use Rattle.scoring.proofs.root.root.Goals as goal

-- what owning an `f64` tells: the format holds it
held : (c : Start) → T (fits binary64 c.args.x)
held c = subst T (sym c.well_formed.0.1) tt

-- past all the tests: neither a NaN nor an infinity
in_range : (c : Else-b-gt9223372036854775808) → to_bits binary64 c.args.x < 9218868437227405312
in_range c =
    below_inf c.args.x (subst T (sym c.well_formed.0.1) tt) (T_from_false _ (sym c.is_nan.ensures.value ∙ c.if-is_nan.false)) c.if-b-gt9223372036854775808.false c.if-b.false c.if-b-eq9218868437227405312.false

pub returns-then-is_nan : goal.returns-then-is_nan
returns-then-is_nan c = nan_own c.args.x (sym c.is_nan.ensures.value ∙ c.if-is_nan.true)

pub float_to_bits-b : goal.float_to_bits-b
float_to_bits-b c = T_from_false _ (sym c.is_nan.ensures.value ∙ c.if-is_nan.false)

pub returns-then-b-eq0 : goal.returns-then-b-eq0
returns-then-b-eq0 c = own c.args.x 0 (held (goal.at.returns-then-b-eq0 c).Start) c.if-b-eq0.true zero_own

pub returns-then-b : goal.returns-then-b
returns-then-b c = own c.args.x 9223372036854775808 (held (goal.at.returns-then-b c).Start) c.if-b.true minus_zero_own

pub returns-then-b-eq9218868437227405312 : goal.returns-then-b-eq9218868437227405312
returns-then-b-eq9218868437227405312 c = own c.args.x 9218868437227405312 (held (goal.at.returns-then-b-eq9218868437227405312 c).Start) c.if-b-eq9218868437227405312.true inf_own

pub returns-then-b-gt9223372036854775808 : goal.returns-then-b-gt9223372036854775808
unfolding of_bits
returns-then-b-gt9223372036854775808 c = negative c.args.x (held (goal.at.returns-then-b-gt9223372036854775808 c).Start) c.if-b-gt9223372036854775808.true (to_bits-lt binary64 c.args.x (held (goal.at.returns-then-b-gt9223372036854775808 c).Start))

pub returns-then-f-eq0 : goal.returns-then-f-eq0
returns-then-f-eq0 c =
    c.positive_root.ensures (to_bits binary64 c.args.x % 4503599627370496) refl
    ∙ subnormal c.args.x (held (goal.at.returns-then-f-eq0 c).Start) c.if-b-eq0.false c.if-f-eq0.true

pub positive_root-requires-2 : goal.positive_root-requires-2
positive_root-requires-2 c = omega (arith, in_range (goal.at.positive_root-requires-2 c).Else-b-gt9223372036854775808, pos_of_ne-zero c.if-f-eq0.false)

pub returns : goal.returns
returns c =
    c.positive_root-2.ensures (normal_units (to_bits binary64 c.args.x)) (normal_scaled (to_bits binary64 c.args.x) c.if-f-eq0.false)
    ∙ normal c.args.x (held (goal.at.returns c).Start) c.if-f-eq0.false (in_range (goal.at.returns c).Else-b-gt9223372036854775808)
