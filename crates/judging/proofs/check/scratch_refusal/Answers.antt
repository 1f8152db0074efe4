-- `check::scratch_refusal` meets its contract: each return rewrites with the test that led there.
use Prim.Native.Nat.{◌^◌, ◌≤◌, ◌<◌}
use native.Mathlib.Omega.{arith}
use borrow.Author.Tests.{le-leb, lt-leb}
use Rattle.judging.specs.Check.{scratch_refusal}
use Rattle.judging.proofs.check.scratch_refusal.Goals as goal

pub returns-then-scratch-bin_count : goal.returns-then-scratch-bin_count
unfolding scratch_refusal
returns-then-scratch-bin_count c =
    let a = c.args in
    let short : a.scratch < 2 ^ a.k = omega (arith, c.bin_count.ensures) in
    simp (lt-leb _ _ short)

pub returns : goal.returns
unfolding scratch_refusal
returns c =
    let a = c.args in
    let enough : 2 ^ a.k ≤ a.scratch = omega (arith, c.bin_count.ensures) in
    simp (le-leb _ _ enough)
