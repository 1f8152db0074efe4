-- `stepping::first` meets its contract.
use mathlib.Core.Path.{◌≡◌, ◌∙◌, subst}
use Prim.Native.Nat.{ℕ}
use lib.ListN.{take, length-set}
use native.Mathlib.Omega.{arith}
use Rattle.subsets.specs.Subsets.{numbers_from}
use Rattle.subsets.proofs.Filling.{fill, filled}
use Rattle.subsets.proofs.stepping.first.Goals as goal

pub loop-i-preserved : goal.loop-i-preserved
loop-i-preserved c =
    (length-set c.loop-i.bit-items c.loop-i.i c.loop-i.i ∙ c.loop-i.invariant.0, fill c.loop-i.i c.loop-i.bit-items (omega arith) c.loop-i.invariant.1)

pub returns : goal.returns
returns c =
    let all : c.loop-i.i ≡ c.args.k = omega arith in
    filled c.args.k c.loop-i.bit-items c.requires c.loop-i.invariant.0 (subst (λ (i : ℕ). take i c.loop-i.bit-items ≡ numbers_from 0 i) all c.loop-i.invariant.1)
