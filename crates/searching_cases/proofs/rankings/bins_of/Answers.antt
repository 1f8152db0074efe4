-- `rankings::bins_of` meets its contract: 12 bits have 4,096 bins, and fewer bits have fewer.
use native.Mathlib.Omega.{arith}
use Prim.Native.Nat.{◌^◌, ◌≤◌}
use lib.Pow.{pow_mono}
use Rattle.searching_cases.proofs.rankings.bins_of.Goals as goal

pub returns : goal.returns
returns c =
    let h : 2 ^ c.args.k ≤ 2 ^ 12 = pow_mono {j = 12} c.requires in
    (c.bin_count.ensures, omega (arith, c.bin_count.ensures))
