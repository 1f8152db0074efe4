-- `evaluation::evaluate_histogram` meets its contract: past the refusals the blocks are counted in the first 2 ^ k entries of the scratch.
use mathlib.Core.Path.{◌≡◌, sym, ap, ◌∙◌}
use mathlib.Core.List.{List, ◌++◌}
use Prim.Native.Nat.{ℕ, ◌^◌}
use native.Mathlib.Omega.{arith}
use lib.ListN.{length, take, drop}
use borrow.Author.Rules.{rules}
use Rattle.counting.proofs.Accepted.{valid_facts}
use Rattle.counting.proofs.Reasons.{some_number}
use Rattle.scoring.specs.Halves.{part}
use Rattle.scoring.specs.Score.{z_score}
use Rattle.searching.proofs.Refusing.{or_first, or_next}
use Rattle.judging.specs.Check.{order_refusal}
use Rattle.judging.specs.Evaluation.{testing_blocks, counts_in, score_for, early_evaluation_refusal, evaluation_refusal, Evaluated, as_evaluated, evaluated_of, evaluated_scratch}
use Rattle.judging.proofs.Checking.{handed_on, Ordered, ordered, chosen_length}
use Rattle.judging.proofs.Evaluating.{Early, early, countable, answer_number, answer_refused, answer_found, scratch_lent, scratch_cleared, scratch_counted, cleared_first, cleared_rest}
use Rattle.judging.proofs.Once.{once_permutes}
use Rattle.judging.proofs.evaluation.evaluate_histogram.Goals.{In_ok-early_evaluation_refusal, In_ok-order_refusal, Start}
use Rattle.judging.proofs.evaluation.evaluate_histogram.Goals as goal

-- ---- past the early refusals

none : (e : In_ok-early_evaluation_refusal) → let a = e.args in early_evaluation_refusal a.finding (length a.order.now) (testing_blocks a.finding a.bytes.now) (length a.scratch.now) ≡ 0
none e = sym e.in_ok-early_evaluation_refusal.ensures

facts : (e : In_ok-early_evaluation_refusal) → let a = e.args in Early a.finding (length a.order.now) (testing_blocks a.finding a.bytes.now) (length a.scratch.now)
facts e = let a = e.args in early a.finding (length a.order.now) (testing_blocks a.finding a.bytes.now) (length a.scratch.now) (none e)

-- ---- past all refusals

order_ok : (g : In_ok-order_refusal) → let a = g.args in order_refusal a.finding.width a.finding.division a.order.now ≡ 0
order_ok g = sym g.in_ok-order_refusal.ensures.value

order_facts : (g : In_ok-order_refusal) → let a = g.args in Ordered a.finding.width a.finding.division a.order.now
order_facts g = let a = g.args in ordered a.finding.width a.finding.division a.order.now (order_ok g)

size : (s : Start) → length s.args.finding.bits ≡ 20
size s = search rules

pub returns-in_err-early_evaluation_refusal : goal.returns-in_err-early_evaluation_refusal
unfolding evaluated_of evaluated_scratch evaluation_refusal
returns-in_err-early_evaluation_refusal c =
    let a = c.args in
    let is = c.in_err-early_evaluation_refusal.ensures in
    let some : early_evaluation_refusal a.finding (length a.order.now) (testing_blocks a.finding a.bytes.now) (length a.scratch.now) ≡ 0 → ⊥ = λ z. some_number _ (is ∙ z) in
    let answer = answer_refused c.from_residual.result _ _ _ _ _ (handed_on _ _ c.from_residual.ensures.1) (is ∙ or_first _ (order_refusal a.finding.width a.finding.division a.order.now) some) in record {
      value = answer;
      score_value = answer_number a.finding a.order.now a.bytes.now (length a.scratch.now) (as_evaluated c.from_residual.result) answer;
      scratch_after = scratch_lent _ _ a.finding.width _ a.scratch.now some;
    }

pub order_refusal-requires : goal.order_refusal-requires
order_refusal-requires c = let f = facts (goal.at.order_refusal-requires c).In_ok-early_evaluation_refusal in (f.shape.limits.width, f.space)

pub returns-in_err-order_refusal : goal.returns-in_err-order_refusal
unfolding evaluated_of evaluated_scratch evaluation_refusal
returns-in_err-order_refusal c =
    let a = c.args in
    let r = c.from_residual-in_err-order_refusal in
    let is = c.in_err-order_refusal.ensures.value in
    let some : order_refusal a.finding.width a.finding.division a.order.now ≡ 0 → ⊥ = λ z. some_number _ (is ∙ z) in
    let none = none (goal.at.returns-in_err-order_refusal c).In_ok-early_evaluation_refusal in
    let answer = answer_refused r.result _ _ _ _ _ (handed_on _ _ r.ensures.1) (is ∙ or_next _ _ none) in record {
      value = answer;
      score_value = answer_number a.finding a.order.now a.bytes.now (length a.scratch.now) (as_evaluated r.result) answer;
      scratch_after = c.in_err-order_refusal.ensures.scratch_after ∙ scratch_cleared _ _ a.finding.width _ a.scratch.now none some;
    }

pub bin_count-m-requires : goal.bin_count-m-requires
bin_count-m-requires c = (facts (goal.at.bin_count-m-requires c).In_ok-early_evaluation_refusal).shape.limits.width

pub evaluate-positive-requires : goal.evaluate-positive-requires
evaluate-positive-requires c =
    let a = c.args in
    let f = facts (goal.at.evaluate-positive-requires c).In_ok-early_evaluation_refusal in
    let o = order_facts (goal.at.evaluate-positive-requires c).In_ok-order_refusal in record {
      countable_data = countable a.finding (length a.order.now) (length a.scratch.now) a.bytes.now f (size (goal.at.evaluate-positive-requires c).Start);
      bins_value = ap (λ (m : ℕ). take m c.order_refusal.new.scratch) c.bin_count-m.ensures
          ∙ ap (take (2 ^ a.finding.width)) c.order_refusal.ensures.scratch_after ∙ cleared_first a.finding.width a.scratch.now;
      finding_len = (
        chosen_length a.finding f.shape.limits.width (size (goal.at.evaluate-positive-requires c).Start),
        (once_permutes (2 ^ a.finding.width) a.order.now f.shape.sized).0 o.once,
        omega (arith, o.below, f.shape.sized),
      );
    }

pub nonzero_div-n-2 : goal.nonzero_div-n-2
nonzero_div-n-2 c = omega (arith, valid_facts _ (facts (goal.at.nonzero_div-n-2 c).In_ok-early_evaluation_refusal).shape.limits.valid)

pub overflow_cast-n : goal.overflow_cast-n
overflow_cast-n c = omega (arith, (facts (goal.at.overflow_cast-n c).In_ok-early_evaluation_refusal).blocks)

pub score_of-score-requires : goal.score_of-score-requires
score_of-score-requires c = (facts (goal.at.score_of-score-requires c).In_ok-early_evaluation_refusal).shape.limits.width

pub returns : goal.returns
unfolding evaluated_of evaluated_scratch evaluation_refusal
returns c =
    let a = c.args in
    let f = a.finding in
    let k = f.width in
    let n = testing_blocks f a.bytes.now in
    let found = c.evaluate-positive.ensures.value in
    let scored = c.score_of-score.ensures ∙ ap (λ (x : ℕ). score_for n (z_score n x (part f.division k))) found in
    let all = sym (or_next _ _ (none (goal.at.returns c).In_ok-early_evaluation_refusal)) ∙ order_ok (goal.at.returns c).In_ok-order_refusal in
    let result : Evaluated = record { refusal = 0; positive = c.evaluate-positive.result; score = c.score_of-score.result } in
    let answer : result ≡ evaluated_of f a.order.now a.bytes.now (length a.scratch.now) =
    (λ i. record {
      refusal = 0;
      positive = found i;
      score = scored i;
    }) ∙ answer_found _ _ _ _ all in record {
      value = answer;
      score_value = answer_number f a.order.now a.bytes.now (length a.scratch.now) result answer;
      scratch_after = ap (λ (s : List ℕ). s ++ drop c.bin_count-m.result c.order_refusal.new.scratch) c.evaluate-positive.ensures.bins_after
          ∙ ap (λ (s : List ℕ). counts_in f a.bytes.now ++ s)
          (ap (λ (m : ℕ). drop m c.order_refusal.new.scratch) c.bin_count-m.ensures
          ∙ ap (drop (2 ^ k)) c.order_refusal.ensures.scratch_after ∙ cleared_rest k a.scratch.now)
          ∙ scratch_counted _ _ k (counts_in f a.bytes.now) a.scratch.now (none (goal.at.returns c).In_ok-early_evaluation_refusal) (order_ok (goal.at.returns c).In_ok-order_refusal);
    }
