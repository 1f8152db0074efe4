-- `jimrawel_start` meets its contract: what start promised, its sampler written.
use mathlib.Core.Path.{◌≡◌, sym, ap, subst, ◌∙◌}
use Prim.Native.Nat.{ℕ}
use lib.ListN.{length}
use Rattle.std.specs.Result.{result_unwrap_or}
use Rattle.sampling.specs.Sampler.{as_started}
use Rattle.sampling.specs.declared.sampler.Sampler.{Sampler}
use Rattle.exports.specs.Samplers.{SamplerWritten, sampler_room}
use Rattle.exports.specs.Calls.{StartCall}
use Rattle.exports.proofs.Asking.{failed, succeeded, short_room, started_is}
use Rattle.exports.proofs.Calling.{room_for, start_made, start_short}
use Rattle.exports.proofs.jimrawel_start.Goals.{Else-is_err}
use Rattle.exports.proofs.jimrawel_start.Goals as goal

none : (e : Else-is_err) → let a = e.args in sampler_room (length a.sampler.now) (length a.unfinished.now) ≡ 0
none e = sym e.sampler_room-room.ensures ∙ succeeded e.sampler_room-room.result (sym e.is_err.ensures.value ∙ e.if-is_err.false)

pub returns-then-is_err : goal.returns-then-is_err
returns-then-is_err c =
    let a = c.args in
    let x = c.sampler_room-room in
    let is = sym c.is_err.ensures.value ∙ c.if-is_err.true in
    subst (λ (r : ℕ). StartCall a.block_size a.low_first a.words.now a.sampler.now a.unfinished.now r a.words.now a.sampler.now a.unfinished.now)
    (sym (c.refusal_of.ensures ∙ short_room x.result _ _ is x.ensures))
    (start_short a.block_size a.low_first a.words.now a.sampler.now a.unfinished.now (λ z. failed x.result is (x.ensures ∙ z)))

pub write_sampler-requires : goal.write_sampler-requires
write_sampler-requires c = room_for _ _ (none (goal.at.write_sampler-requires c).Else-is_err)

pub returns : goal.returns
returns c =
    let a = c.args in
    let x = c.start-started.result in
    let i = started_is x in
    let sampler : c.unwrap_or.result ≡ (as_started x).sampler = c.unwrap_or.ensures ∙ ap (result_unwrap_or x) c.no_sampler.ensures ∙ i.1 in
    let wrote = subst (λ (s : Sampler). SamplerWritten s a.sampler.now a.unfinished.now c.write_sampler.new.numbers c.write_sampler.new.bytes) sampler c.write_sampler.ensures in
    subst (λ (r : ℕ). StartCall a.block_size a.low_first a.words.now a.sampler.now a.unfinished.now r c.start-started.new.words c.write_sampler.new.numbers c.write_sampler.new.bytes)
    (sym (c.refusal_of-refusal.ensures ∙ i.0))
    (start_made a.block_size a.low_first a.words.now a.sampler.now a.unfinished.now (as_started x) c.start-started.new.words
    c.write_sampler.new.numbers c.write_sampler.new.bytes
    (none (goal.at.returns c).Else-is_err) c.start-started.ensures.value c.start-started.ensures.words_after wrote)
