-- `settle::reduce_each` meets its contract: run after run.
use Prim.Native.Nat.{◌+◌, ◌*◌, ◌/◌, ◌≤◌, ◌<◌}
use mathlib.Core.Path.{◌≡◌}
use native.Mathlib.Omega.{arith}
use native.Mathlib.Nat.{mul-le-mul_right, add-mul}
use lib.ListN.{length}
use Rattle.layers.proofs.Reducing.{through_none, run_fits, run_falls, through_more, all_through}
use Rattle.layers.proofs.settle.reduce_each.Goals.{In-loop-turn}
use Rattle.layers.proofs.settle.reduce_each.Goals as goal

-- the run of a turn ends within the bins
ends : (d : In-loop-turn) → let pair = 2 * d.args.step in d.loop-turn.turn * pair + pair ≤ length d.loop-turn.bins
ends d =
    let pair = 2 * d.args.step in
    let next : d.loop-turn.turn + 1 ≤ length d.args.bins.now / pair = omega (arith, d.loop-turn-test.true) in
    omega (arith, add-mul d.loop-turn.turn 1 pair, mul-le-mul_right pair next, d.requires.paired.whole, d.loop-turn.invariant.size)

pub loop-turn-init : goal.loop-turn-init
loop-turn-init c = let none : 0 * (2 * c.args.step) ≡ 0 = omega arith in rw none (through_none c.args.step c.args.bins.now)

pub reduce-requires : goal.reduce-requires
reduce-requires c =
    let a = c.args in
    let at = c.loop-turn.turn * (2 * a.step) in
    let before : at < length c.loop-turn.bins = omega (arith, ends (goal.at.reduce-requires c).In-loop-turn, c.requires.paired.some) in
    record {
      step_in_bounds = run_fits a.step at a.bins.now c.loop-turn.bins c.requires.paired c.loop-turn.invariant before;
      by_index = run_falls a.step at a.bins.now c.loop-turn.bins c.requires.paired c.loop-turn.invariant before;
    }

pub loop-turn-preserved : goal.loop-turn-preserved
loop-turn-preserved c =
    let a = c.args in
    let r = c.reduce in
    let at = c.loop-turn.turn * (2 * a.step) in
    let before : at < length c.loop-turn.bins = omega (arith, ends (goal.at.loop-turn-preserved c).In-loop-turn, c.requires.paired.some) in
    let next : (c.loop-turn.turn + 1) * (2 * a.step) ≡ at + 2 * a.step = omega (arith, add-mul c.loop-turn.turn 1 (2 * a.step)) in
    rw next (through_more a.step at a.bins.now c.loop-turn.bins c.requires.paired c.loop-turn.invariant before r.new.bins r.auto.bins r.ensures)

pub shape_of-bins : goal.shape_of-bins
shape_of-bins c = c.loop-turn.invariant.size

pub returns : goal.returns
returns c =
    let a = c.args in
    let pair = 2 * a.step in
    let past : length a.bins.now / pair ≤ c.loop-turn.turn = omega (arith, c.loop-turn-test.false) in
    all_through a.step (c.loop-turn.turn * pair) a.bins.now c.loop-turn.bins c.requires.paired c.loop-turn.invariant
    (omega (arith, mul-le-mul_right pair past, c.requires.paired.whole, c.loop-turn.invariant.size))
