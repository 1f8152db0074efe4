-- `block::bits_block_eval` meets its contract: from the last bit back, the result is the bin of the bits passed.
use mathlib.Core.Path.{◌≡◌}
use Prim.Native.Nat.{◌-◌}
use lib.ListN.{length, drop}
use Rattle.counting.specs.Block.{block_bit, bin_of}
use Rattle.counting.proofs.block.bits_block_eval.Given as goal

abbrev pub invariant-loop-bit : goal.invariant-loop-bit
invariant-loop-bit l = l.result ≡ bin_of (block_bit l.low_first l.block) (drop (length l.bits - length l.yielded) l.bits)
