-- `jimrawel_read_finding` meets its contract: what the reading promised, its finding written.
use mathlib.Core.Path.{sym, ap, subst, ◌∙◌}
use Prim.Native.Nat.{ℕ}
use Rattle.std.specs.Result.{result_unwrap_or}
use Rattle.searching.specs.declared.finding.Finding.{Finding}
use Rattle.exchange.specs.Exchange.{as_reading}
use Rattle.exports.specs.Records.{finding_numbers, written}
use Rattle.exports.specs.Calls.{ReadCall}
use Rattle.exports.proofs.Asking.{reading_is}
use Rattle.exports.proofs.Calling.{read_made, read_short}
use Rattle.exports.proofs.jimrawel_read_finding.Goals as goal

pub returns-then-finding-lt25 : goal.returns-then-finding-lt25
returns-then-finding-lt25 c =
    let a = c.args in
    read_short a.text.now a.order.now a.scratch.now a.finding.now c.if-finding-lt25.true

pub returns : goal.returns
returns c =
    let a = c.args in
    let x = c.read_finding-reading in
    let i = reading_is x.result in
    let finding = c.unwrap_or.ensures ∙ ap (result_unwrap_or x.result) c.no_finding.ensures ∙ i.1 in
    subst (λ (r : ℕ). ReadCall a.text.now a.order.now a.scratch.now a.finding.now r x.new.order x.new.scratch c.write_finding.new.numbers)
    (sym (c.refusal_of-refusal.ensures ∙ i.0))
    (read_made a.text.now a.order.now a.scratch.now a.finding.now (as_reading x.result) _ _ _ c.if-finding-lt25.false x.ensures
    (c.write_finding.ensures ∙ ap (λ (f : Finding). written (finding_numbers f) a.finding.now) finding))
