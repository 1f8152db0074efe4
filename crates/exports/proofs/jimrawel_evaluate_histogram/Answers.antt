-- `jimrawel_evaluate_histogram` meets its contract: what the evaluation promised of the finding lent, its numbers written.
use mathlib.Core.Path.{◌≡◌, sym, ap, subst, ◌∙◌}
use mathlib.Core.List.{List}
use Prim.Native.Nat.{ℕ}
use lib.ListN.{length}
use Rattle.std.specs.Prelude.{Ok}
use Rattle.judging.specs.Evaluation.{as_evaluated}
use Rattle.judging.specs.declared.evaluation.Evaluated as found
use Rattle.exports.specs.Records.{evaluated_numbers, written, evaluation_unread}
use Rattle.exports.specs.Calls.{EvaluateCall}
use Rattle.exports.proofs.Asking.{failed, succeeded, evaluated_is}
use Rattle.exports.proofs.Calling.{evaluation_room, evaluate_made, evaluate_unread}
use Rattle.exports.proofs.jimrawel_evaluate_histogram.Goals.{Else-is_err}
use Rattle.exports.proofs.jimrawel_evaluate_histogram.Goals as goal

none : (e : Else-is_err) → let a = e.args in evaluation_unread a.finding.now (length a.evaluated.now) ≡ 0
none e = sym e.evaluation_unread-unread.ensures ∙ succeeded e.evaluation_unread-unread.result (sym e.is_err.ensures.value ∙ e.if-is_err.false)

pub returns-then-is_err : goal.returns-then-is_err
returns-then-is_err c =
    let a = c.args in
    let x = c.evaluation_unread-unread in
    evaluate_unread a.finding.now a.order.now a.bytes.now a.scratch.now a.evaluated.now c.refusal_of.result (c.refusal_of.ensures ∙ x.ensures)
    (λ z. failed x.result (sym c.is_err.ensures.value ∙ c.if-is_err.true) (sym c.refusal_of.ensures ∙ z))

pub evaluate_lent-answer-requires : goal.evaluate_lent-answer-requires
evaluate_lent-answer-requires c = (evaluation_room _ _ (none (goal.at.evaluate_lent-answer-requires c).Else-is_err)).1

pub write_evaluated-requires : goal.write_evaluated-requires
write_evaluated-requires c = (evaluation_room _ _ (none (goal.at.write_evaluated-requires c).Else-is_err)).0

pub returns : goal.returns
returns c =
    let a = c.args in
    let x = c.evaluate_lent-answer in
    let i = evaluated_is x.result in
    let numbers = ap (λ (e : found.Evaluated). evaluated_numbers (as_evaluated (Ok e))) c.unwrap_or.ensures ∙ i.1 in
    subst (λ (r : ℕ). EvaluateCall a.finding.now a.order.now a.bytes.now a.scratch.now a.evaluated.now r x.new.scratch c.write_evaluated.new.numbers)
    (sym (c.refusal_of-refusal.ensures ∙ i.0))
    (evaluate_made a.finding.now a.order.now a.bytes.now a.scratch.now a.evaluated.now (as_evaluated x.result) _ _
    (none (goal.at.returns c).Else-is_err) x.ensures.value x.ensures.scratch_after
    (c.write_evaluated.ensures ∙ ap (λ (l : List ℕ). written l a.evaluated.now) numbers))
