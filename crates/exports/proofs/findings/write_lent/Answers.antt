-- `findings::write_lent` meets its contract: what the bits are refused for comes first, and a division that 32 bits do not hold is refused alike.
use mathlib.Core.Path.{◌≡◌, sym, ap, subst}
use Rattle.counting.proofs.Reasons.{some_number}
use Rattle.sampling.proofs.Refused.{passed_on}
use Rattle.exchange.specs.Exchange.{Writes, Written, as_written}
use Rattle.exports.specs.Records.{finding_read}
use Rattle.exports.specs.Findings.{subset_refusal}
use Rattle.exports.proofs.Lending.{readable, width_read, write_refused, writes_alike}
use Rattle.exports.proofs.findings.write_lent.Goals.{In_ok-subset_refusal}
use Rattle.exports.proofs.findings.write_lent.Goals as goal

none : (e : In_ok-subset_refusal) → subset_refusal (finding_read e.args.numbers.now) ≡ 0
none e = sym e.in_ok-subset_refusal.ensures

pub returns-in_err-subset_refusal : goal.returns-in_err-subset_refusal
returns-in_err-subset_refusal c =
    let a = c.args in
    let f = finding_read a.numbers.now in
    let r = write_refused f _ c.in_err-subset_refusal.ensures (some_number _) a.order.now a.scratch.now a.out.now in
    subst (λ (w : Written). Writes f a.order.now a.scratch.now a.out.now w a.scratch.now a.out.now) (sym (ap as_written (passed_on _ _ c.from_residual.ensures.1))) r

pub read_finding-requires : goal.read_finding-requires
read_finding-requires c = readable c.args.numbers.now c.requires (none c)

pub returns : goal.returns
returns c =
    let a = c.args in
    let f = finding_read a.numbers.now in
    writes_alike f (width_read f (none (goal.at.returns c).In_ok-subset_refusal)) c.read_finding.result c.read_finding.ensures a.order.now a.scratch.now a.out.now (as_written c.write_finding.result) _ _ c.write_finding.ensures
