-- `evaluation::early_evaluation_refusal` meets its contract: the first refusal that is not 0.
use mathlib.Core.Path.{◌≡◌, sym, ap, ◌∙◌}
use native.Mathlib.Omega.{arith}
use borrow.Author.Tests.{le-leb, lt-leb}
use Rattle.counting.specs.Refusal.{refusal_of}
use Rattle.counting.proofs.Accepted.{valid_facts}
use Rattle.counting.proofs.Reasons.{some_number}
use Rattle.searching.proofs.Refusing.{or_first}
use Rattle.judging.specs.Check.{shape_refusal}
use Rattle.judging.specs.Evaluation.{blocks_refusal, early_evaluation_refusal}
use Rattle.judging.proofs.Checking.{handed_on, Shaped, shaped}
use Rattle.judging.proofs.evaluation.early_evaluation_refusal.Goals.{In_ok-shape_refusal}
use Rattle.judging.proofs.evaluation.early_evaluation_refusal.Goals as goal

shape_ok : (e : In_ok-shape_refusal) → let a = e.args in shape_refusal a.finding a.order ≡ 0
shape_ok e = sym e.in_ok-shape_refusal.ensures

facts : (e : In_ok-shape_refusal) → let a = e.args in Shaped a.finding a.order
facts e = let a = e.args in shaped a.finding a.order (shape_ok e)

pub returns-in_err-shape_refusal : goal.returns-in_err-shape_refusal
unfolding early_evaluation_refusal
returns-in_err-shape_refusal c =
    let is = c.in_err-shape_refusal.ensures in
    ap refusal_of (handed_on _ _ c.from_residual.ensures.1) ∙ is ∙ or_first _ _ (λ z. some_number _ (is ∙ z))

pub nonzero_div-bytes : goal.nonzero_div-bytes
nonzero_div-bytes c = omega (arith, valid_facts _ (facts (goal.at.nonzero_div-bytes c).In_ok-shape_refusal).limits.valid)

pub returns-then-bytes-finding-gt16777216 : goal.returns-then-bytes-finding-gt16777216
unfolding early_evaluation_refusal blocks_refusal
returns-then-bytes-finding-gt16777216 c = simp (shape_ok (goal.at.returns-then-bytes-finding-gt16777216 c).In_ok-shape_refusal, lt-leb _ _ c.if-bytes-finding-gt16777216.true)

pub scratch_refusal-requires : goal.scratch_refusal-requires
scratch_refusal-requires c = (facts (goal.at.scratch_refusal-requires c).In_ok-shape_refusal).limits.width

pub returns : goal.returns
unfolding early_evaluation_refusal blocks_refusal
returns c =
    c.scratch_refusal.ensures ∙ simp (shape_ok (goal.at.returns c).In_ok-shape_refusal, le-leb _ _ c.if-bytes-finding-gt16777216.false)
