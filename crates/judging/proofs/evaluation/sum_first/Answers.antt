-- `evaluation::sum_first` meets its contract: the sum is that of the counts of the order gone over.
use mathlib.Core.Path.{◌≡◌, sym, ap, ◌∙◌}
use Prim.Native.Nat.{ℕ, ◌+◌, ◌<◌}
use native.Mathlib.Omega.{arith}
use lib.ListN.{length, get_or, take}
use lib.Seq.{length-take-le}
use Rattle.std.proofs.lemmas.List.{get_or-take}
use Rattle.judging.specs.Evaluation.{positive_of}
use Rattle.judging.proofs.Tallying.{positive_none, positive_more, positive_most, bin_below}
use Rattle.judging.proofs.evaluation.sum_first.Goals.{In-loop-bin}
use Rattle.judging.proofs.evaluation.sum_first.Goals as goal

-- the bin of a turn
here : (d : In-loop-bin) → let a = d.args in (d.loop-bin.bin-index < a.division) × (get_or (take a.division a.order.now) d.loop-bin.bin-index 0 ≡ get_or a.order.now d.loop-bin.bin-index 0)
here d =
    let within : d.loop-bin.bin-index < d.args.division = omega (arith, d.loop-bin-test.true, length-take-le d.args.division d.args.order.now d.requires.division_in_bounds.0) in
    (within, get_or-take d.args.division d.args.order.now d.loop-bin.bin-index 0 within)

-- the sum after it
more : (d : In-loop-bin) → let a = d.args in let i = d.loop-bin.bin-index in
    d.loop-bin.sum + get_or a.bins.now (get_or (take a.division a.order.now) i 0) 0 ≡ positive_of a.bins.now a.order.now (i + 1)
more d =
    let a = d.args in
    let i = d.loop-bin.bin-index in
    rw ((here d).1) (ap (λ (x : ℕ). x + get_or a.bins.now (get_or a.order.now i 0) 0) d.loop-bin.invariant ∙ positive_more a.bins.now a.order.now i (omega (arith, (here d).0, d.requires.division_in_bounds.0)))

pub loop-bin-init : goal.loop-bin-init
loop-bin-init c = sym (positive_none c.args.bins.now c.args.order.now)

pub bounds-bins-bin : goal.bounds-bins-bin
bounds-bins-bin c =
    let a = c.args in
    let h = here (goal.at.bounds-bins-bin c).In-loop-bin in
    rw (h.1) (bin_below (length a.bins.now) a.order.now c.loop-bin.bin-index c.requires.permutation (omega (arith, h.0, c.requires.division_in_bounds.0)))

pub overflow_add-sum : goal.overflow_add-sum
overflow_add-sum c =
    omega (arith, more (goal.at.overflow_add-sum c).In-loop-bin, positive_most c.args.bins.now c.args.order.now (c.loop-bin.bin-index + 1) c.requires.permutation, c.requires.division_in_bounds.1)

pub loop-bin-preserved : goal.loop-bin-preserved
loop-bin-preserved c = more (goal.at.loop-bin-preserved c).In-loop-bin
