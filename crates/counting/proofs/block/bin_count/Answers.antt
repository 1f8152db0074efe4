-- `block::bin_count` meets its contract: the shift loses nothing.
use Prim.Native.Nat.{◌^◌, ◌≤◌}
use native.Mathlib.Omega.{arith}
use lib.Pow.{pow_mono}
use Rattle.counting.proofs.block.bin_count.Goals as goal

pub returns : goal.returns
returns c = let h : 2 ^ c.args.k ≤ 2 ^ 20 = pow_mono {j = 20} c.requires in omega arith
