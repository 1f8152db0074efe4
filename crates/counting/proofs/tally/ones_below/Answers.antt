-- `tally::ones_below` meets its contract: a mask is a remainder.
use Prim.Native.Nat.{◌-◌, ◌*◌, ◌%◌, ◌^◌}
use mathlib.Core.Path.{◌≡◌}
use native.Mathlib.Omega.{arith}
use native.Mathlib.Nat.{mod-lt, le_trans, le_of_eq}
use lib.Bits.{bit_and, and_mask}
use lib.Count.{ones, ones-le}
use lib.Pow.{pow_pos}
use Rattle.counting.proofs.Marks.{shifted_one}
use Rattle.counting.proofs.tally.ones_below.Goals as goal

pub overflow_sub-result : goal.overflow_sub-result
overflow_sub-result c = omega (arith, shifted_one 64 c.args.m c.requires, pow_pos c.args.m)

pub returns : goal.returns
returns c =
    let w = c.args.w in
    let m = c.args.m in
    let e : ones (bit_and w (1 * 2 ^ m % 2 ^ 64 - 1)) ≡ ones (w % 2 ^ m) = rw (shifted_one 64 m c.requires, and_mask) in
    (e, le_trans (le_of_eq e) (ones-le m (w % 2 ^ m) (mod-lt w (pow_pos m))))
