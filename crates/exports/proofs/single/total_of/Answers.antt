-- `single::total_of` meets its contract. The loop's invariant: the sum is that of the counts passed, each below 2 ^ 32.
use mathlib.Core.Path.{◌≡◌, refl, sym, ap, ◌∙◌}
use mathlib.Core.List.{List}
use Prim.Native.Nat.{ℕ, ◌+◌, ◌<◌}
use native.Mathlib.Numerals.{add-one}
use native.Mathlib.Omega.{arith}
use lib.ListN.{length, take, get_or}
use lib.Seq.{length-take-le, get_or-take}
use Rattle.counting.specs.Sample.{total}
use Rattle.ranking.proofs.Totals.{total_more}
use Rattle.exports.proofs.single.total_of.Goals.{In-loop-x}
use Rattle.exports.proofs.single.total_of.Goals as goal

zero_total : (l : List ℕ) → 0 ≡ total (take 0 l)
unfolding total
zero_total l = refl

pub loop-x-init : goal.loop-x-init
loop-x-init c = (omega arith, zero_total c.args.bins.now, omega arith)

-- there are m counts
size : (c : In-loop-x) → length (take c.args.m c.args.bins.now) ≡ c.args.m
size c = length-take-le c.args.m c.args.bins.now (omega (arith, c.requires))

-- a count is below 2 ^ 32
count : (c : In-loop-x) → (get_or (take c.args.m c.args.bins.now) c.loop-x.x-index 0 ≡ get_or c.args.bins.now c.loop-x.x-index 0) × (get_or c.args.bins.now c.loop-x.x-index 0 < 4294967296)
count c =
    let h : c.loop-x.x-index < c.args.m = omega (arith, size c, c.loop-x-test.true) in
    (get_or-take c.args.m c.args.bins.now c.loop-x.x-index 0 h, omega (arith, c.type_inv.bins c.loop-x.x-index))

pub overflow_add-sum : goal.overflow_add-sum
overflow_add-sum c =
    let d = (goal.at.overflow_add-sum c).In-loop-x in
    omega (arith, count d, size d, c.loop-x-test.true, c.requires, c.loop-x.invariant.2)

pub loop-x-preserved : goal.loop-x-preserved
loop-x-preserved c =
    let bins = c.args.bins.now in
    let i = c.loop-x.x-index in
    let d = (goal.at.loop-x-preserved c).In-loop-x in
    let n = count d in
    let within : i < length bins = omega (arith, size d, c.loop-x-test.true, c.requires) in
    let more : c.loop-x.sum + get_or (take c.args.m bins) i 0 ≡ total (take (i + 1) bins) =
    ap (λ (x : ℕ). c.loop-x.sum + x) n.0
    ∙ rw add-one (ap (λ (x : ℕ). x + get_or bins i 0) c.loop-x.invariant.1 ∙ sym (total_more bins i within)) in
    (omega (arith, size d, c.loop-x-test.true), more, omega (arith, n, c.loop-x.invariant.2))

pub returns : goal.returns
returns c =
    let e : c.loop-x.x-index ≡ c.args.m = omega (arith, length-take-le c.args.m c.args.bins.now (omega (arith, c.requires)), c.loop-x-test.false, c.loop-x.invariant.0) in
    c.loop-x.invariant.1 ∙ ap (λ (i : ℕ). total (take i c.args.bins.now)) e
