-- `size::store_size` meets its contract. The loop's invariant: the sum over the widths up to d, exact up to 2^32.
use Prim.Native.Nat.{◌+◌, ◌-◌, ◌≤◌}
use mathlib.Core.Path.{◌≡◌}
use native.Mathlib.Omega.{arith}
use Rattle.layers.specs.Store.{widest}
use Rattle.layers.proofs.Sizing.{size_none, summed, small_choose, all_widths}
use Rattle.layers.proofs.size.store_size.Goals.{After-choose_up_to-size, At-loop-d}
use Rattle.layers.proofs.size.store_size.Goals as goal

-- the widths are at most 19
few : (l : At-loop-d) → l.widest-most.result ≤ 19
few l = omega (arith, l.widest-most.ensures, l.requires)

-- what a width adds is small
added : (c : After-choose_up_to-size) → c.choose_up_to-size.result ≤ 4294967297
added c = small_choose c.args.block_size _ c.choose_up_to-size.result c.choose_up_to-size.ensures

pub loop-d-init : goal.loop-d-init
loop-d-init c = (omega arith, omega (arith, size_none c.args.block_size))

pub overflow_add-size : goal.overflow_add-size
overflow_add-size c = omega (arith, added c, c.loop-d.invariant, few (goal.at.overflow_add-size c).At-loop-d, c.loop-d-test.true)

pub loop-d-preserved : goal.loop-d-preserved
loop-d-preserved c =
    let before : c.loop-d.d - 1 + 1 ≡ c.loop-d.d = omega arith in
    let back : c.loop-d.d + 1 - 1 ≡ c.loop-d.d - 1 + 1 = omega arith in (
      omega (arith, added c, c.loop-d.invariant),
      rw back (summed c.args.block_size (c.loop-d.d - 1) c.choose_up_to-size.result c.loop-d.size (rw before c.choose_up_to-size.ensures) c.loop-d.invariant.1),
    )

pub returns : goal.returns
returns c =
    let a = c.args in
    let d = c.loop-d.d in
    let all : d - 1 ≡ widest a.k = omega (arith, c.widest-most.ensures, c.loop-d-test.false) in
    omega (arith, all_widths a.block_size a.k (d - 1) c.loop-d.size all c.loop-d.invariant.1, c.min.ensures)
