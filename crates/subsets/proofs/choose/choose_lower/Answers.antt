-- `choose::choose_lower` meets its contract. The loop's invariant: c is n choose i, and at most 2^32.
use Prim.Native.Nat.{◌+◌}
use mathlib.Core.Path.{◌≡◌, ap, ◌∙◌}
use native.Mathlib.Omega.{arith}
use Rattle.subsets.specs.Choose.{choose}
use Rattle.subsets.proofs.Choosing.{exact, above, turn}
use Rattle.subsets.proofs.choose.choose_lower.Goals as goal

pub returns-then-c-gt4294967296 : goal.returns-then-c-gt4294967296
returns-then-c-gt4294967296 c =
    let a = c.args in
    above a.n (c.loop-i.i + 1) a.r (omega arith) c.requires.1 (omega (arith, turn a.n c.loop-i.i c.loop-i.c c.loop-i.invariant.0))

pub loop-i-preserved : goal.loop-i-preserved
loop-i-preserved c =
    (turn c.args.n c.loop-i.i c.loop-i.c c.loop-i.invariant.0, c.if-c-gt4294967296.false)

pub returns : goal.returns
returns c =
    let a = c.args in
    let e : c.loop-i.i ≡ a.r = omega arith in
    exact a.n a.r c.loop-i.c (c.loop-i.invariant.0 ∙ ap (choose a.n) e) c.loop-i.invariant.1
