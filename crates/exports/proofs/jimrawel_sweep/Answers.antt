-- `jimrawel_sweep` meets its contract: what the sweep promised, and its numbers written.
use mathlib.Core.Path.{sym, ap, subst, ◌∙◌}
use mathlib.Core.List.{List}
use Prim.Native.Nat.{ℕ}
use Rattle.std.specs.Prelude.{Ok}
use Rattle.std.specs.Result.{result_unwrap_or}
use Rattle.sweeping.specs.Sweep.{as_swept}
use Rattle.sweeping.specs.declared.sweep.Swept as answered
use Rattle.exports.specs.Records.{swept_numbers, written}
use Rattle.exports.specs.Calls.{SweepCall}
use Rattle.exports.proofs.Asking.{swept_is}
use Rattle.exports.proofs.Calling.{sweep_made, sweep_short}
use Rattle.exports.proofs.jimrawel_sweep.Goals as goal

pub returns-then-swept-lt60 : goal.returns-then-swept-lt60
returns-then-swept-lt60 c =
    let a = c.args in
    sweep_short a.raw.now a.block_size a.low_first a.level a.words.now a.store.now a.bins.now a.order.now a.scratch.now a.entries.now a.swept.now c.if-swept-lt60.true

pub returns : goal.returns
returns c =
    let a = c.args in
    let x = c.sweep-answer in
    let i = swept_is x.result in
    let numbers = ap (λ (s : answered.Swept). swept_numbers (as_swept (Ok s))) (c.unwrap_or.ensures ∙ ap (result_unwrap_or x.result) c.no_sweep.ensures) ∙ i.1 in
    subst (λ (r : ℕ). SweepCall a.raw.now a.block_size a.low_first a.level a.words.now a.store.now a.bins.now a.order.now a.scratch.now a.entries.now a.swept.now r
    x.new.words x.new.store x.new.bins x.new.order x.new.scratch x.new.entries c.write_swept.new.numbers)
    (sym (c.refusal_of-refusal.ensures ∙ i.0))
    (sweep_made a.raw.now a.block_size a.low_first a.level a.words.now a.store.now a.bins.now a.order.now a.scratch.now a.entries.now a.swept.now
    (as_swept x.result) _ _ _ _ _ _ c.write_swept.new.numbers
    c.if-swept-lt60.false x.ensures.value x.ensures.lent_where_refused
    (c.write_swept.ensures ∙ ap (λ (l : List ℕ). written l a.swept.now) numbers))
