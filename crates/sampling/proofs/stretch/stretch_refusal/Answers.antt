-- `stretch::stretch_refusal` meets its contract: each return rewrites with the tests that led there.
use Prim.Native.Nat.{◌≤◌, ◌<◌}
use native.Mathlib.Omega.{arith}
use borrow.Author.Tests.{le-leb, lt-leb}
use Rattle.sampling.specs.Sampler.{blocks_of}
use Rattle.sampling.specs.Stretch.{stretch_refusal}
use Rattle.sampling.proofs.stretch.stretch_refusal.Goals.{Else-first-end}
use Rattle.sampling.proofs.stretch.stretch_refusal.Goals as goal

ordered : (c : Else-first-end) → c.args.first ≤ c.args.end
ordered c = omega (arith, c.if-first-end.false)

pub returns-then-first-end : goal.returns-then-first-end
unfolding stretch_refusal
returns-then-first-end c = simp (lt-leb _ _ c.if-first-end.true)

pub returns-then-end-blocks : goal.returns-then-end-blocks
unfolding stretch_refusal
returns-then-end-blocks c =
    let a = c.args in
    let past : blocks_of a.sampler < a.end = omega (arith, c.if-end-blocks.true, c.blocks-2.ensures) in
    simp (le-leb _ _ (ordered (goal.at.returns-then-end-blocks c).Else-first-end), lt-leb _ _ past)

pub returns : goal.returns
unfolding stretch_refusal
returns c =
    let a = c.args in
    let held : a.end ≤ blocks_of a.sampler = omega (arith, c.if-end-blocks.false, c.blocks-2.ensures) in
    simp (le-leb _ _ (ordered (goal.at.returns c).Else-first-end), le-leb _ _ held)
