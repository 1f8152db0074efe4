-- `block::bit_value_in_block` meets its contract: a shift by the bit's place and a remainder are the definition's.
use mathlib.Core.Path.{ap}
use Prim.Native.Nat.{◌/◌}
use native.Mathlib.Omega.{arith}
use lib.ListN.{get_or}
use Rattle.counting.specs.Block.{bit_at, block_bit}
use Rattle.counting.proofs.Lanes.{bit_lt}
use Rattle.counting.proofs.block.bit_value_in_block.Goals as goal

pub place_in-requires : goal.place_in-requires
place_in-requires c = omega arith

pub overflow_cast-value : goal.overflow_cast-value
overflow_cast-value c = omega (arith, c.place_in.ensures)

pub overflow_shr-value : goal.overflow_shr-value
overflow_shr-value c = omega (arith, c.place_in.ensures)

pub returns : goal.returns
unfolding block_bit
returns c =
    let a = c.args in
    let byte = get_or a.block.now (a.bit / 8) 0 in
    (ap (bit_at byte) c.place_in.ensures.0, bit_lt byte c.place_in.result)
