-- `patterns::double` is safe: past its test the pattern is no NaN's.
use Rattle.std.proofs.Common.{◌%◌, Bool, not, T, sym, subst}
use lib.Arith.{le→nltb}
use lib.Ieee.{binary64}
use lib.Ieee.Bits.{nan_bits_above}
use Rattle.cases.proofs.patterns.double.Goals as goal

pub float_from_bits-result : goal.float_from_bits-result
float_from_bits-result c =
    let b = c.args.pattern in
    subst (λ (t : Bool). T (not t)) (sym (nan_bits_above binary64 b)) (le→nltb 9218868437227405312 (b % 9223372036854775808) c.if-pattern-gt9218868437227405312.false)
