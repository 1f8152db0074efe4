-- `jimrawel_write_finding` meets its contract: what the writing promised of the finding lent, its length written.
use mathlib.Core.Path.{◌≡◌, sym, subst₂, ◌∙◌}
use Prim.Native.Nat.{ℕ}
use Rattle.exchange.specs.Exchange.{as_written}
use Rattle.exports.specs.Records.{finding_unread}
use Rattle.exports.specs.Calls.{WriteCall}
use Rattle.exports.proofs.Asking.{failed, succeeded, written_is}
use Rattle.exports.proofs.Calling.{finding_room, write_made, write_unread}
use Rattle.exports.proofs.jimrawel_write_finding.Goals.{Else-is_err}
use Rattle.exports.proofs.jimrawel_write_finding.Goals as goal

none : (e : Else-is_err) → finding_unread e.args.finding.now ≡ 0
none e = sym e.finding_unread-unread.ensures ∙ succeeded e.finding_unread-unread.result (sym e.is_err.ensures.value ∙ e.if-is_err.false)

pub returns-then-is_err : goal.returns-then-is_err
returns-then-is_err c =
    let a = c.args in
    let x = c.finding_unread-unread in
    write_unread a.finding.now a.order.now a.scratch.now a.out.now a.length.now c.refusal_of.result (c.refusal_of.ensures ∙ x.ensures)
    (λ z. failed x.result (sym c.is_err.ensures.value ∙ c.if-is_err.true) (sym c.refusal_of.ensures ∙ z))

pub write_lent-written-requires : goal.write_lent-written-requires
write_lent-written-requires c = finding_room _ (none (goal.at.write_lent-written-requires c).Else-is_err)

pub returns : goal.returns
returns c =
    let a = c.args in
    let x = c.write_lent-written in
    let i = written_is x.result in
    subst₂ (λ (r n : ℕ). WriteCall a.finding.now a.order.now a.scratch.now a.out.now a.length.now r x.new.scratch x.new.out n)
    (sym (c.refusal_of-refusal.ensures ∙ i.0)) (sym (c.unwrap_or.ensures ∙ i.1))
    (write_made a.finding.now a.order.now a.scratch.now a.out.now a.length.now (as_written x.result) _ _ (none (goal.at.returns c).Else-is_err) x.ensures)
