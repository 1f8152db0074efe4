-- `writer::longest_text` meets its contract.
use Prim.Native.Nat.{ℕ, ◌+◌, ◌*◌, ◌/◌, ◌≤◌}
use mathlib.Core.Path.{sym, ap, ◌∙◌}
use native.Mathlib.Nat.{mul-le-mul}
use native.Mathlib.Omega.{arith}
use Rattle.subsets.proofs.Refusing.{width_bounds}
use Rattle.exchange.proofs.Acceptance.{bins_most}
use Rattle.exchange.proofs.Bounds.{longest_is, longest_none}
use Rattle.exchange.proofs.writer.longest_text.Goals.{After-bin_count, Else-not-valid_width}
use Rattle.exchange.proofs.writer.longest_text.Goals as goal

width : (e : Else-not-valid_width) → (1 ≤ e.args.k) × (e.args.k ≤ 20)
width e = width_bounds _ (sym e.valid_width.ensures ∙ e.if-not-valid_width.false)

-- at most 2 ^ 20 bins
few : (d : After-bin_count) → d.bin_count.result ≤ 1048576
few d = let k = d.args.k in omega (arith, d.bin_count.ensures, bins_most k (width (goal.at.overflow_add-result-2 d).Else-not-valid_width).1)

product : (d : After-bin_count) → let k = d.args.k in (d.bin_count.result + 1) * (2 + 3 * k / 10) ≤ 1048577 * 8
product d =
    let k = d.args.k in
    let bins : d.bin_count.result + 1 ≤ 1048577 = omega (arith, few d) in
    let each : 2 + 3 * k / 10 ≤ 8 = omega (arith, (width (goal.at.overflow_add-result-2 d).Else-not-valid_width).1) in
    mul-le-mul bins each

pub returns-then-not-valid_width : goal.returns-then-not-valid_width
returns-then-not-valid_width c = let v = c.valid_width in longest_none _ (sym v.ensures ∙ c.if-not-valid_width.true)

pub overflow_mul-result : goal.overflow_mul-result
overflow_mul-result c = omega (arith, (width c).1)

pub overflow_add-result : goal.overflow_add-result
overflow_add-result c = omega (arith, (width c).1)

pub bin_count-requires : goal.bin_count-requires
bin_count-requires c = (width c).1

pub overflow_add-result-2 : goal.overflow_add-result-2
overflow_add-result-2 c = omega (arith, few c)

pub overflow_mul-result-2 : goal.overflow_mul-result-2
overflow_mul-result-2 c = omega (arith, (width (goal.at.overflow_mul-result-2 c).Else-not-valid_width).1)

pub overflow_mul-result-3 : goal.overflow_mul-result-3
overflow_mul-result-3 c = omega (arith, product c)

pub overflow_add-result-4 : goal.overflow_add-result-4
overflow_add-result-4 c = omega (arith, product c, (width (goal.at.overflow_add-result-4 c).Else-not-valid_width).1)

pub returns : goal.returns
returns c =
    let k = c.args.k in
    let w = width (goal.at.returns c).Else-not-valid_width in
    ap (λ (m : ℕ). 81 + 5 * k + (m + 1) * (2 + 3 * k / 10)) c.bin_count.ensures ∙ sym (longest_is k w.0 w.1)
