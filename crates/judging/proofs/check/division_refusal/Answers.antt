-- `check::division_refusal` meets its contract: each return rewrites with the tests that led there.
use mathlib.Core.Path.{refl}
use Prim.Native.Nat.{◌≤◌}
use native.Mathlib.Omega.{arith}
use mathlib.Core.Logic.{inl, inr}
use borrow.Author.Tests.{le-leb, lt-ltb, le-ltb}
use Rattle.judging.specs.Check.{division_refusal}
use Rattle.judging.proofs.check.division_refusal.Goals as goal

pub returns-then-division-eq0 : goal.returns-then-division-eq0
unfolding division_refusal
returns-then-division-eq0 c = elim c.then-division-eq0.either [ inl w ↦ rw w refl | inr w ↦ simp (le-leb 1 _ (let some : 1 ≤ c.args.division = omega (arith, w.0) in some), le-ltb _ _ w.1) ]

pub returns : goal.returns
unfolding division_refusal
returns c =
    let some : 1 ≤ c.args.division = omega arith in
    simp (le-leb 1 _ some, lt-ltb _ _ c.if-division-m.false)
