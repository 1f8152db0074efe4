-- `jimrawel_bottomup` meets its contract: what the search promised of the sampler read, and its finding written.
use mathlib.Core.Path.{◌≡◌, sym, ap, subst, ◌∙◌}
use Prim.Native.Nat.{ℕ}
use lib.ListN.{length}
use Rattle.std.specs.Result.{result_unwrap_or}
use Rattle.searching.specs.Finding.{searched_of}
use Rattle.searching.specs.declared.finding.Finding.{Finding}
use Rattle.exports.specs.Records.{finding_numbers, written}
use Rattle.exports.specs.Samplers.{search_unread}
use Rattle.exports.specs.Calls.{BottomupCall}
use Rattle.exports.proofs.Asking.{failed, succeeded, searched_is}
use Rattle.exports.proofs.Calling.{search_room, bottomup_made, bottomup_unread}
use Rattle.exports.proofs.jimrawel_bottomup.Goals.{Else-is_err}
use Rattle.exports.proofs.jimrawel_bottomup.Goals as goal

none : (e : Else-is_err) → let a = e.args in search_unread a.sampler.now (length a.finding.now) ≡ 0
none e = sym e.search_unread-unread.ensures ∙ succeeded e.search_unread-unread.result (sym e.is_err.ensures.value ∙ e.if-is_err.false)

pub returns-then-is_err : goal.returns-then-is_err
returns-then-is_err c =
    let a = c.args in
    let x = c.search_unread-unread in
    bottomup_unread a.sampler.now a.words.now a.first a.end a.k a.store.now a.bins.now a.order.now a.finding.now c.refusal_of.result (c.refusal_of.ensures ∙ x.ensures)
    (λ z. failed x.result (sym c.is_err.ensures.value ∙ c.if-is_err.true) (sym c.refusal_of.ensures ∙ z))

pub read_head-requires : goal.read_head-requires
read_head-requires c = (search_room _ _ (none c)).1

pub write_finding-requires : goal.write_finding-requires
write_finding-requires c = (search_room _ _ (none (goal.at.write_finding-requires c).Else-is_err)).0

pub returns : goal.returns
returns c =
    let a = c.args in
    let b = c.bottomup-searched in
    let i = searched_is b.result in
    let finding = c.unwrap_or.ensures ∙ ap (result_unwrap_or b.result) c.no_finding.ensures ∙ i.1 in
    subst (λ (r : ℕ). BottomupCall a.sampler.now a.words.now a.first a.end a.k a.store.now a.bins.now a.order.now a.finding.now r b.new.store b.new.bins b.new.order c.write_finding.new.numbers)
    (sym (c.refusal_of-refusal.ensures ∙ i.0))
    (bottomup_made a.sampler.now a.words.now a.first a.end a.k a.store.now a.bins.now a.order.now a.finding.now
    c.read_head.result (searched_of b.result) _ _ _ c.write_finding.new.numbers
    (none (goal.at.returns c).Else-is_err) c.read_head.ensures b.ensures
    (c.write_finding.ensures ∙ ap (λ (f : Finding). written (finding_numbers f) a.finding.now) finding))
