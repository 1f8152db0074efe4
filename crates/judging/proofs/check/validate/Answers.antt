-- `check::validate` meets its contract: the first refusal, and the scratch as lent up to 7.
use mathlib.Core.Path.{◌≡◌, sym, ap, ◌∙◌}
use lib.ListN.{length}
use Rattle.counting.specs.Refusal.{refusal_of, number_of}
use Rattle.counting.specs.declared.refusal.Refusal.{Refusal}
use Rattle.counting.proofs.Reasons.{some_number}
use Rattle.searching.proofs.Refusing.{or_first, or_next}
use Rattle.judging.specs.Check.{shape_refusal, scratch_refusal, early_check_refusal, check_refusal, checked_scratch}
use Rattle.judging.proofs.Checking.{handed_on, Shaped, shaped, room, as_lent, is_cleared}
use Rattle.judging.proofs.check.validate.Goals.{In_ok-shape_refusal, In_ok-scratch_refusal, Start}
use Rattle.judging.proofs.check.validate.Goals as goal

-- an early refusal is the check's, and leaves the scratch
early : (e : Start) (r : Refusal) → let a = e.args in number_of r ≡ early_check_refusal a.finding (length a.order.now) (length a.scratch.now)
    → (number_of r ≡ check_refusal a.finding a.order.now (length a.scratch.now)) × (a.scratch.now ≡ checked_scratch a.finding (length a.order.now) a.scratch.now)
unfolding check_refusal checked_scratch
early e r is =
    let a = e.args in
    let none : early_check_refusal a.finding (length a.order.now) (length a.scratch.now) ≡ 0 → ⊥ = λ z. some_number r (is ∙ z) in
    (is ∙ or_first _ _ none, as_lent _ a.finding.width a.scratch.now none)

shape_ok : (e : In_ok-shape_refusal) → let a = e.args in shape_refusal a.finding (length a.order.now) ≡ 0
shape_ok e = sym e.in_ok-shape_refusal.ensures

facts : (e : In_ok-shape_refusal) → let a = e.args in Shaped a.finding (length a.order.now)
facts e = let a = e.args in shaped a.finding (length a.order.now) (shape_ok e)

scratch_ok : (e : In_ok-scratch_refusal) → let a = e.args in scratch_refusal a.finding.width (length a.scratch.now) ≡ 0
scratch_ok e = sym e.in_ok-scratch_refusal.ensures

pub returns-in_err-shape_refusal : goal.returns-in_err-shape_refusal
unfolding early_check_refusal
returns-in_err-shape_refusal c =
    let is = c.in_err-shape_refusal.ensures in
    let whole = early (goal.at.returns-in_err-shape_refusal c).Start _ (is ∙ or_first _ _ (λ z. some_number _ (is ∙ z))) in
    record { value = ap refusal_of (handed_on _ _ c.from_residual.ensures.1) ∙ whole.0; scratch_after = whole.1 }

pub scratch_refusal-requires : goal.scratch_refusal-requires
scratch_refusal-requires c = (facts c).limits.width

pub returns-in_err-scratch_refusal : goal.returns-in_err-scratch_refusal
unfolding early_check_refusal
returns-in_err-scratch_refusal c =
    let whole = early (goal.at.returns-in_err-scratch_refusal c).Start _ (c.in_err-scratch_refusal.ensures ∙ or_next _ _ (shape_ok (goal.at.returns-in_err-scratch_refusal c).In_ok-shape_refusal)) in
    record { value = ap refusal_of (handed_on _ _ c.from_residual-in_err-scratch_refusal.ensures.1) ∙ whole.0; scratch_after = whole.1 }

pub order_refusal-requires : goal.order_refusal-requires
order_refusal-requires c =
    let a = c.args in
    ((facts (goal.at.order_refusal-requires c).In_ok-shape_refusal).limits.width, room a.finding.width (length a.scratch.now) (scratch_ok (goal.at.order_refusal-requires c).In_ok-scratch_refusal))

pub returns : goal.returns
unfolding check_refusal checked_scratch early_check_refusal
returns c =
    let a = c.args in
    let none = sym (or_next _ _ (shape_ok (goal.at.returns c).In_ok-shape_refusal)) ∙ scratch_ok (goal.at.returns c).In_ok-scratch_refusal in
    record {
      value = c.order_refusal.ensures.value ∙ or_next _ _ none;
      scratch_after = c.order_refusal.ensures.scratch_after ∙ is_cleared _ a.finding.width a.scratch.now none;
    }
