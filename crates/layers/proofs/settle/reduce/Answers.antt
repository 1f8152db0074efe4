-- `settle::reduce` meets its contract: entry by entry.
use Prim.Native.Nat.{◌-◌, ℕ}
use mathlib.Core.Path.{◌≡◌, refl, ap₂, subst}
use native.Mathlib.Omega.{arith}
use lib.ListN.{length-set}
use Rattle.layers.specs.Settle.{Reduced}
use Rattle.layers.proofs.Reducing.{reduced_none, reads_first, reads_second, reduced_more}
use borrow.Author.Rules.{rules}
use Rattle.layers.proofs.settle.reduce.Goals as goal

pub loop-i-init : goal.loop-i-init
loop-i-init c = (search rules, refl, reduced_none _ _ _)

pub overflow_sub-bins : goal.overflow_sub-bins
overflow_sub-bins c =
    let a = c.args in
    omega (
      arith,
      reads_first a.at a.step c.loop-i.i a.bins.now c.loop-i.bins c.loop-i.invariant.2,
      reads_second a.at a.step c.loop-i.i a.bins.now c.loop-i.bins c.loop-i.invariant.2 c.loop-i-test.true,
      c.requires.by_index c.loop-i.i c.loop-i-test.true,
    )

pub loop-i-preserved : goal.loop-i-preserved
loop-i-preserved c =
    let a = c.args in
    let first = reads_first a.at a.step c.loop-i.i a.bins.now c.loop-i.bins c.loop-i.invariant.2 in
    let second = reads_second a.at a.step c.loop-i.i a.bins.now c.loop-i.bins c.loop-i.invariant.2 c.loop-i-test.true in (
      omega arith,
      simp length-set c.loop-i.invariant.1,
      reduced_more a.at a.step c.loop-i.i a.bins.now c.loop-i.bins c.loop-i.invariant.2 _ (omega arith) (ap₂ ◌-◌ first second),
    )

pub returns : goal.returns
returns c =
    let a = c.args in
    let e : c.loop-i.i ≡ a.step = omega arith in
    subst (λ (m : ℕ). Reduced a.at a.step m a.bins.now c.loop-i.bins) e c.loop-i.invariant.2
