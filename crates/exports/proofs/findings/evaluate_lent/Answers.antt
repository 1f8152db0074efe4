-- `findings::evaluate_lent` meets its contract: what the bits are refused for comes first, and a division that 32 bits do not hold is refused alike.
use mathlib.Core.Path.{◌≡◌, refl, sym, ap, ◌∙◌}
use lib.ListN.{length}
use Rattle.counting.proofs.Reasons.{some_number}
use Rattle.sampling.proofs.Refused.{passed_on}
use Rattle.searching.specs.declared.finding.Finding.{Finding}
use Rattle.judging.specs.Evaluation.{evaluated_of, evaluated_scratch}
use Rattle.exports.specs.Records.{finding_read}
use Rattle.exports.specs.Findings.{subset_refusal}
use Rattle.exports.proofs.Lending.{readable, width_read, evaluation_refused, evaluated_alike, counted_alike}
use Rattle.exports.proofs.findings.evaluate_lent.Goals.{In_ok-subset_refusal}
use Rattle.exports.proofs.findings.evaluate_lent.Goals as goal

none : (e : In_ok-subset_refusal) → subset_refusal (finding_read e.args.numbers.now) ≡ 0
none e = sym e.in_ok-subset_refusal.ensures

pub returns-in_err-subset_refusal : goal.returns-in_err-subset_refusal
returns-in_err-subset_refusal c =
    let a = c.args in
    let whole = evaluation_refused (finding_read a.numbers.now) _ c.in_err-subset_refusal.ensures (some_number _) a.order.now a.bytes.now a.scratch.now _ _ (passed_on _ _ c.from_residual.ensures.1) refl in
    record { value = whole.0; scratch_after = whole.1 }

pub read_finding-requires : goal.read_finding-requires
read_finding-requires c = readable c.args.numbers.now c.requires (none c)

pub returns : goal.returns
returns c =
    let a = c.args in
    let f = finding_read a.numbers.now in
    let w = width_read f (none (goal.at.returns c).In_ok-subset_refusal) in
    let is = c.read_finding.ensures in record {
      value = c.evaluate_histogram.ensures.value ∙ ap (λ (g : Finding). evaluated_of g a.order.now a.bytes.now (length a.scratch.now)) is
          ∙ evaluated_alike f w a.order.now a.bytes.now (length a.scratch.now);
      scratch_after = c.evaluate_histogram.ensures.scratch_after ∙ ap (λ (g : Finding). evaluated_scratch g a.order.now a.bytes.now a.scratch.now) is
          ∙ counted_alike f w a.order.now a.bytes.now a.scratch.now;
    }
