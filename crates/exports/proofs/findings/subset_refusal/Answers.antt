-- `findings::subset_refusal` meets its contract: each return has the tests that led there, and the bits are those that the finding has chosen.
use mathlib.Core.Path.{◌≡◌, sym, ap, ◌∙◌}
use mathlib.Core.Bool.{true}
use Prim.Native.Nat.{◌≤◌}
use native.Mathlib.Omega.{arith}
use lib.ListN.{get_or}
use Rattle.counting.specs.Block.{valid_size}
use Rattle.subsets.specs.Bits.{valid_width, bits_refusal}
use Rattle.subsets.proofs.Refusing.{width_bounds}
use Rattle.searching.proofs.Refusing.{or_next}
use Rattle.judging.specs.Check.{limit_refusal}
use Rattle.judging.proofs.Checking.{limit_none}
use Rattle.exports.specs.Records.{finding_read}
use Rattle.exports.specs.Findings.{subset_refusal}
use Rattle.exports.proofs.Lending.{part_is, chosen_read}
use Rattle.exports.proofs.findings.subset_refusal.Goals.{Else-not-valid_block_size, Else-not-valid_width}
use Rattle.exports.proofs.findings.subset_refusal.Goals as goal

size_ok : (e : Else-not-valid_block_size) → valid_size (get_or e.args.numbers.now 0 0) ≡ true
size_ok e = sym e.valid_block_size.ensures ∙ e.if-not-valid_block_size.false

width_ok : (e : Else-not-valid_width) → valid_width (get_or e.args.numbers.now 1 0) ≡ true
width_ok e = sym e.valid_width.ensures ∙ e.if-not-valid_width.false

narrow : (e : Else-not-valid_width) → get_or e.args.numbers.now 1 0 ≤ 20
narrow e = (width_bounds _ (width_ok e)).1

pub returns-then-not-valid_block_size : goal.returns-then-not-valid_block_size
unfolding subset_refusal limit_refusal
returns-then-not-valid_block_size c = simp (sym c.valid_block_size.ensures ∙ c.if-not-valid_block_size.true)

pub returns-then-not-valid_width : goal.returns-then-not-valid_width
unfolding subset_refusal limit_refusal
returns-then-not-valid_width c = simp (size_ok (goal.at.returns-then-not-valid_width c).Else-not-valid_block_size, sym c.valid_width.ensures ∙ c.if-not-valid_width.true)

pub overflow_add-k : goal.overflow_add-k
overflow_add-k c = omega (arith, narrow c)

pub slice_bounds-lent_bits_refusal-end : goal.slice_bounds-lent_bits_refusal-end
slice_bounds-lent_bits_refusal-end c = omega (arith, narrow c, c.requires)

pub returns : goal.returns
unfolding subset_refusal
returns c =
    let l = c.args.numbers.now in
    c.lent_bits_refusal.ensures
    ∙ ap (bits_refusal (get_or l 0 0)) (part_is l (get_or l 1 0) ∙ chosen_read l (narrow (goal.at.returns c).Else-not-valid_width) c.requires)
    ∙ or_next _ _ (limit_none (finding_read l) (size_ok (goal.at.returns c).Else-not-valid_block_size) (width_ok (goal.at.returns c).Else-not-valid_width))
