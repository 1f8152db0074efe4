-- `pieces::adds_up` meets its contract: the lengths that are left add up to what is left just where all add up to all.
use mathlib.Core.Path.{◌≡◌, sym, ap, ◌∙◌}
use Prim.Native.Nat.{◌+◌, ◌-◌, ◌≤◌}
use native.Mathlib.Omega.{arith}
use lib.Dec.{eqb}
use lib.ListN.{length, get_or, drop}
use borrow.Author.Tests.{ne_eqb}
use Rattle.counting.specs.Sample.{total}
use Rattle.replay.proofs.Cutting.{total_step, total_end, eqb_left, eqb_none}
use Rattle.replay.proofs.pieces.adds_up.Goals as goal

pub returns-in_default : goal.returns-in_default
returns-in_default c =
    let l = c.args.lengths.now in
    sym (c.loop-n.invariant ∙ ne_eqb _ _ (λ e. c.in_default.ensures (omega (arith, e, total_step l c.loop-n.n-index c.loop-n-test.true))))

pub loop-n-preserved : goal.loop-n-preserved
loop-n-preserved c =
    let l = c.args.lengths.now in
    let n = get_or l c.loop-n.n-index 0 in
    let room : n ≤ c.loop-n.left = omega (arith, c.in-Some.ensures) in
    let left : c.loop-n.left - n ≡ c.in-Some.rest = omega (arith, c.in-Some.ensures) in
    c.loop-n.invariant ∙ eqb_left _ n _ c.loop-n.left (total_step l c.loop-n.n-index c.loop-n-test.true) room ∙ ap (eqb (total (drop (c.loop-n.n-index + 1) l))) left

pub returns : goal.returns
returns c =
    let l = c.args.lengths.now in
    let end : c.loop-n.n-index ≡ length l = omega arith in
    sym (c.loop-n.invariant ∙ eqb_none _ c.loop-n.left (total_end l c.loop-n.n-index end))
