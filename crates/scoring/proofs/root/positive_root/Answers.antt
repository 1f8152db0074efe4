-- `root::positive_root` meets its contract: m * 2 ^ e does not change. The measure is e.
use mathlib.Core.Path.{refl, sym, ◌∙◌}
use Prim.Native.Nat.{◌≤◌}
use native.Mathlib.Omega.{arith}
use Rattle.scoring.proofs.Rooting.{room, doubled}
use Rattle.scoring.proofs.root.positive_root.Goals.{In-loop-m}
use Rattle.scoring.proofs.root.positive_root.Goals as goal

above_zero : (c : In-loop-m) → 1 ≤ c.loop-m.e
above_zero c =
    let a = c.args in
    room a.m0 a.e0 c.loop-m.m c.loop-m.e c.requires.0 c.requires.2 c.loop-m-test.true c.loop-m.invariant

pub loop-m-init : goal.loop-m-init
loop-m-init c = (refl, omega arith, omega arith)

pub overflow_mul-m : goal.overflow_mul-m
overflow_mul-m c = omega arith

pub overflow_sub-e : goal.overflow_sub-e
overflow_sub-e c = omega (arith, above_zero c)

pub loop-m-smaller : goal.loop-m-smaller
loop-m-smaller c = omega (arith, above_zero c)

pub loop-m-preserved : goal.loop-m-preserved
loop-m-preserved c =
    let a = c.args in
    doubled a.m0 a.e0 c.loop-m.m c.loop-m.e (above_zero c) c.loop-m-test.true c.loop-m.invariant

pub normal_root-requires : goal.normal_root-requires
normal_root-requires c = omega arith

pub returns : goal.returns
returns c = λ X h. c.normal_root.ensures X (h ∙ sym c.loop-m.invariant.0)
