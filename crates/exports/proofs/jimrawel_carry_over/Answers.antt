-- `jimrawel_carry_over` meets its contract: what the carry_over promised of the sampler read, and its sampler written.
use mathlib.Core.Path.{◌≡◌, sym, ap, subst, ◌∙◌}
use Prim.Native.Nat.{ℕ}
use lib.ListN.{length}
use Rattle.std.specs.Prelude.{Result}
use Rattle.counting.specs.declared.refusal.Refusal.{Refusal}
use Rattle.sampling.specs.Carrying.{as_carried}
use Rattle.sampling.specs.declared.sampler.Sampler.{Sampler}
use Rattle.exports.specs.Samplers.{SamplerWritten, carry_unread}
use Rattle.exports.specs.Calls.{CarryCall}
use Rattle.exports.proofs.Asking.{failed, succeeded, carried_is}
use Rattle.exports.proofs.Calling.{carry_room, carry_made, carry_unread_is}
use Rattle.exports.proofs.jimrawel_carry_over.Goals.{Else-is_err}
use Rattle.exports.proofs.jimrawel_carry_over.Goals as goal

none : (e : Else-is_err) → let a = e.args in carry_unread a.earlier.now (length a.sampler.now) (length a.unfinished.now) ≡ 0
none e = sym e.carry_unread-unread.ensures ∙ succeeded e.carry_unread-unread.result (sym e.is_err.ensures.value ∙ e.if-is_err.false)

pub returns-then-is_err : goal.returns-then-is_err
returns-then-is_err c =
    let a = c.args in
    let x = c.carry_unread-unread in
    carry_unread_is a.earlier.now a.words.now a.sampler.now a.unfinished.now c.refusal_of.result (c.refusal_of.ensures ∙ x.ensures)
    (λ z. failed x.result (sym c.is_err.ensures.value ∙ c.if-is_err.true) (sym c.refusal_of.ensures ∙ z))

pub read_earlier-requires : goal.read_earlier-requires
read_earlier-requires c = (carry_room _ _ _ (none c)).0

pub write_sampler-requires : goal.write_sampler-requires
write_sampler-requires c =
    let r = carry_room _ _ _ (none (goal.at.write_sampler-requires c).Else-is_err) in
    (r.1, r.2)

pub write_sampler-requires-in-Err : goal.write_sampler-requires-in-Err
write_sampler-requires-in-Err c =
    let r = carry_room _ _ _ (none (goal.at.write_sampler-requires-in-Err c).Else-is_err) in
    (r.1, r.2)

pub returns-in-Err : goal.returns-in-Err
returns-in-Err c =
    let a = c.args in
    let x = c.carry_over-carried.result in
    let i = carried_is x in
    let sampler : c.no_sampler.result ≡ (as_carried x).sampler = c.no_sampler.ensures ∙ ap (λ (y : Result Sampler Refusal). (as_carried y).sampler) (sym c.in-Err.is) in
    let wrote = subst (λ (s : Sampler). SamplerWritten s a.sampler.now a.unfinished.now c.write_sampler-in-Err.new.numbers c.write_sampler-in-Err.new.bytes) sampler c.write_sampler-in-Err.ensures in
    subst (λ (r : ℕ). CarryCall a.earlier.now a.words.now a.sampler.now a.unfinished.now r c.carry_over-carried.new.words c.write_sampler-in-Err.new.numbers c.write_sampler-in-Err.new.bytes)
    (sym (c.refusal_of-refusal.ensures ∙ i.0))
    (carry_made a.earlier.now a.words.now a.sampler.now a.unfinished.now c.read_earlier.result (as_carried x) c.carry_over-carried.new.words
    c.write_sampler-in-Err.new.numbers c.write_sampler-in-Err.new.bytes
    (none (goal.at.returns-in-Err c).Else-is_err) c.read_earlier.ensures c.carry_over-carried.ensures.value c.carry_over-carried.ensures.words_after wrote)
