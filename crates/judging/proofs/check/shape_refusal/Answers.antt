-- `check::shape_refusal` meets its contract: each return has the tests that led there.
use mathlib.Core.Path.{◌≡◌, sym, ap, ◌∙◌}
use mathlib.Core.Bool.{true}
use Prim.Native.Nat.{◌^◌}
use native.Mathlib.Omega.{arith}
use borrow.Author.Tests.{eq-eqb, ne_eqb}
use Rattle.counting.specs.Block.{valid_size}
use Rattle.counting.specs.Refusal.{refusal_of}
use Rattle.counting.proofs.Reasons.{some_number}
use Rattle.subsets.specs.Bits.{valid_width, bits_refusal}
use Rattle.subsets.proofs.Refusing.{width_bounds}
use Rattle.searching.proofs.Refusing.{or_first, or_next}
use Rattle.judging.specs.Check.{chosen, limit_refusal, length_refusal, shape_refusal}
use Rattle.judging.proofs.Checking.{handed_on, limit_none}
use Rattle.judging.proofs.check.shape_refusal.Goals.{Else-not-valid_block_size, Else-not-valid_width, In_ok-bits_refusal, Start}
use Rattle.judging.proofs.check.shape_refusal.Goals as goal

-- what has been shown past each of the first two tests

size_ok : (d : Else-not-valid_block_size) → valid_size d.args.finding.block_size ≡ true
size_ok d = sym d.valid_block_size.ensures ∙ d.if-not-valid_block_size.false

width_ok : (d : Else-not-valid_width) → valid_width d.args.finding.width ≡ true
width_ok d = sym d.valid_width.ensures ∙ d.if-not-valid_width.false

limits_ok : (d : Else-not-valid_width) → limit_refusal d.args.finding ≡ 0
limits_ok d = limit_none d.args.finding (let size_ok' : valid_size d.args.finding.block_size ≡ true = sym d.valid_block_size.ensures ∙ d.if-not-valid_block_size.false in size_ok') (width_ok d)

-- the bits are no refusal
bits_ok : (e : In_ok-bits_refusal) → let a = e.args in bits_refusal a.finding.block_size (chosen a.finding) ≡ 0
bits_ok e = sym e.in_ok-bits_refusal.ensures

pub returns-then-not-valid_block_size : goal.returns-then-not-valid_block_size
unfolding shape_refusal limit_refusal
returns-then-not-valid_block_size c = simp (sym c.valid_block_size.ensures ∙ c.if-not-valid_block_size.true)

pub returns-then-not-valid_width : goal.returns-then-not-valid_width
unfolding shape_refusal limit_refusal
returns-then-not-valid_width c = simp (size_ok (goal.at.returns-then-not-valid_width c).Else-not-valid_block_size, sym c.valid_width.ensures ∙ c.if-not-valid_width.true)

pub shared_ref_as_front-bits_refusal : goal.shared_ref_as_front-bits_refusal
shared_ref_as_front-bits_refusal c =
    omega (arith, width_bounds c.args.finding.width (width_ok (goal.at.shared_ref_as_front-bits_refusal c).Else-not-valid_width))

pub returns-in_err-bits_refusal : goal.returns-in_err-bits_refusal
unfolding shape_refusal
returns-in_err-bits_refusal c =
    let a = c.args in
    let is = c.in_err-bits_refusal.ensures in
    ap refusal_of (handed_on _ _ c.from_residual.ensures.1)
    ∙ is ∙ or_first (bits_refusal a.finding.block_size (chosen a.finding)) (length_refusal a.finding.width a.order) (λ z. some_number _ (is ∙ z))
    ∙ or_next _ _ (limits_ok (goal.at.returns-in_err-bits_refusal c).Else-not-valid_width)

pub returns-then-order-bin_count : goal.returns-then-order-bin_count
unfolding shape_refusal length_refusal
returns-then-order-bin_count c =
    let a = c.args in
    simp (limits_ok (goal.at.returns-then-order-bin_count c).Else-not-valid_width, bits_ok (goal.at.returns-then-order-bin_count c).In_ok-bits_refusal, ne_eqb a.order (2 ^ a.finding.width) (λ z. c.if-order-bin_count.true (z ∙ sym c.bin_count.ensures)))

pub returns : goal.returns
unfolding shape_refusal length_refusal
returns c =
    let a = c.args in
    simp (limits_ok (goal.at.returns c).Else-not-valid_width, bits_ok (goal.at.returns c).In_ok-bits_refusal, eq-eqb a.order (2 ^ a.finding.width) (c.if-order-bin_count.false ∙ c.bin_count.ensures))
