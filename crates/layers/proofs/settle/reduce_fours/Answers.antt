-- `settle::reduce_fours` meets its contract: four after four.
use Prim.Native.Nat.{◌+◌, ◌*◌}
use mathlib.Core.Path.{◌≡◌, refl}
use native.Mathlib.Omega.{arith}
use Rattle.layers.proofs.InFours.{fours_none, four_first, four_second, four_both, four_none, fours_more, all_fours}
use Rattle.layers.proofs.settle.reduce_fours.Goals as goal

pub loop-four-init : goal.loop-four-init
loop-four-init c = fours_none _

pub overflow_sub-second : goal.overflow_sub-second
overflow_sub-second c =
    four_second (4 * c.loop-four.four) c.args.bins.now c.loop-four.bins c.requires c.loop-four.invariant (omega (arith, c.loop-four-test.true, c.loop-four.invariant.size))

pub overflow_sub-bins : goal.overflow_sub-bins
overflow_sub-bins c =
    four_first (4 * c.loop-four.four) c.args.bins.now c.loop-four.bins c.requires c.loop-four.invariant (omega (arith, c.loop-four-test.true, c.loop-four.invariant.size))

pub overflow_sub-bins-in-loop-four : goal.overflow_sub-bins-in-loop-four
overflow_sub-bins-in-loop-four c =
    four_none (4 * c.loop-four.four) c.args.bins.now c.loop-four.bins c.requires c.loop-four.invariant (omega (arith, c.loop-four-test.true, c.loop-four.invariant.size))

pub overflow_sub-bins-in-loop-four-2 : goal.overflow_sub-bins-in-loop-four-2
overflow_sub-bins-in-loop-four-2 c =
    omega (arith, four_both (4 * c.loop-four.four) c.args.bins.now c.loop-four.bins c.requires c.loop-four.invariant (omega (arith, c.loop-four-test.true, c.loop-four.invariant.size)))

pub loop-four-preserved : goal.loop-four-preserved
loop-four-preserved c =
    let next : 4 * (c.loop-four.four + 1) ≡ 4 * c.loop-four.four + 4 = omega arith in
    rw next (fours_more (4 * c.loop-four.four) c.args.bins.now c.loop-four.bins c.requires c.loop-four.invariant (omega (arith, c.loop-four-test.true, c.loop-four.invariant.size)) _ _ _ refl refl refl)

pub shape_of-bins : goal.shape_of-bins
shape_of-bins c = c.loop-four.invariant.size

pub returns : goal.returns
returns c =
    all_fours (4 * c.loop-four.four) c.args.bins.now c.loop-four.bins c.loop-four.invariant (omega (arith, c.loop-four-test.false, c.loop-four.invariant.size, c.requires.whole))
