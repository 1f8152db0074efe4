-- `rank::rank_of` meets its contract. The loop's invariant: `Placing`.
use Prim.Native.Nat.{◌<◌}
use native.Mathlib.Omega.{arith}
use lib.ListN.{length, get_or}
use Rattle.subsets.proofs.Listing.{bits_below}
use Rattle.subsets.proofs.Placing.{one_fits, placed, fits, stepped}
use Rattle.subsets.proofs.rank.rank_of.Goals.{In-loop-j}
use Rattle.subsets.proofs.rank.rank_of.Goals as goal

-- in the loop the bit is in the block
inside : (d : In-loop-j) → get_or d.args.bits.now d.loop-j.j 0 < d.args.block_size
inside d =
    bits_below d.args.block_size (length d.args.bits.now) d.args.bits.now d.requires.2 d.loop-j.j d.loop-j-test.true

pub overflow_sub-result : goal.overflow_sub-result
overflow_sub-result c =
    omega (arith, one_fits c.args.block_size c.args.bits.now c.requires.1 c.requires.2 c.choose_up_to-result.result c.choose_up_to-result.ensures)

pub loop-j-init : goal.loop-j-init
loop-j-init c =
    placed c.args.block_size c.args.bits.now c.requires.1 c.requires.2 c.choose_up_to-result.result c.choose_up_to-result.ensures

pub overflow_sub-block_size : goal.overflow_sub-block_size
overflow_sub-block_size c = omega (arith, inside c)

pub overflow_sub-block_size-in-loop-j : goal.overflow_sub-block_size-in-loop-j
overflow_sub-block_size-in-loop-j c = omega (arith, inside (goal.at.overflow_sub-block_size-in-loop-j c).In-loop-j)

pub overflow_sub-result-in-loop-j : goal.overflow_sub-result-in-loop-j
overflow_sub-result-in-loop-j c =
    let n = c.loop-j in
    fits c.args.block_size c.args.bits.now n.result n.j n.invariant c.loop-j-test.true c.choose_up_to-result-in-loop-j.result c.choose_up_to-result-in-loop-j.ensures

pub loop-j-preserved : goal.loop-j-preserved
loop-j-preserved c =
    let n = c.loop-j in
    stepped c.args.block_size c.args.bits.now n.result n.j n.invariant c.loop-j-test.true c.choose_up_to-result-in-loop-j.result c.choose_up_to-result-in-loop-j.ensures
