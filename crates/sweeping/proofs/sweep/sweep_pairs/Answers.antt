-- `sweep::sweep_pairs` meets its contract. The loop's invariant: the progress after the pairs gone over.
use mathlib.Core.Path.{◌≡◌, ap, ◌∙◌}
use Prim.Native.Nat.{◌≤◌, ◌<◌}
use native.Mathlib.Numerals.{add-one}
use native.Mathlib.Omega.{arith}
use lib.ListN.{length}
use lib.Seq.{length-take-le}
use borrow.Author.Rules.{rules}
use Rattle.std.specs.Prelude.{Ok}
use Rattle.judging.specs.Plan.{as_plan}
use Rattle.sweeping.specs.Progress.{next_progress}
use Rattle.sweeping.specs.Refusal.{pair_refusal}
use Rattle.sweeping.specs.Sweep.{room_of}
use Rattle.sweeping.specs.declared.refusal.Room.{Room}
use Rattle.sweeping.proofs.Plans.{pair_here, sizes_here, refused_here, pair_is}
use Rattle.sweeping.proofs.Progressing.{before_first, one_more, tested_few}
use Rattle.sweeping.proofs.Refusals.{each_free}
use Rattle.sweeping.proofs.sweep.sweep_pairs.Goals.{In-loop-planned, Start}
use Rattle.sweeping.proofs.sweep.sweep_pairs.Goals as goal

few : (s : Start) → s.args.plan.pairs ≤ length s.args.plan.sizes
few s = let seven : length s.args.plan.sizes ≡ 7 = search rules in omega (arith, seven, s.requires.sound.few)

within : (d : In-loop-planned) → d.loop-planned.planned-index < d.args.plan.pairs
within d =
    let seven : length d.args.plan.sizes ≡ 7 = search rules in
    omega (arith, d.loop-planned-test.true, length-take-le d.args.plan.pairs d.args.plan.sizes (omega (arith, seven, d.requires.sound.few)))

pub loop-planned-init : goal.loop-planned-init
loop-planned-init c =
    let a = c.args in
    c.begun-progress.ensures ∙ before_first a.share (as_plan (Ok a.plan)) a.low_first a.raw.now

pub next_progress-progress-requires : goal.next_progress-progress-requires
next_progress-progress-requires c =
    let l = c.loop-planned in
    let a = c.args in
    let p = as_plan (Ok a.plan) in
    let i = l.planned-index in
    let bytes = length a.raw.now in
    let lent = room_of a.words.now a.bins.now a.order.now a.scratch.now a.entries.now in
    let w = within (goal.at.next_progress-progress-requires c).In-loop-planned in
    let f = few (goal.at.next_progress-progress-requires c).Start in
    let tested : l.progress.tested ≤ i = rw l.invariant (tested_few a.share p a.low_first a.raw.now i) in
    let same : room_of l.words l.bins l.order l.scratch l.entries ≡ lent = λ j. record { words = l.auto.words j; bins = l.auto.bins j; order = l.auto.order j; scratch = l.auto.scratch j; entries = l.auto.entries j } in
    record {
      sizes = (sizes_here a.plan i w f c.requires.sound, omega (arith, tested, w, c.requires.sound.few));
      entries_value = ap (λ (r : Room). pair_refusal bytes (pair_here a.plan i w f).block_size (pair_here a.plan i w f).width r) same ∙ refused_here a.plan i w f bytes lent ∙ each_free p bytes lent a.plan.pairs i w c.requires.pairs_value;
    }

pub loop-planned-preserved : goal.loop-planned-preserved
loop-planned-preserved c =
    let l = c.loop-planned in
    let a = c.args in
    let i = l.planned-index in
    let w = within (goal.at.loop-planned-preserved c).In-loop-planned in
    let f = few (goal.at.loop-planned-preserved c).Start in
    rw add-one
    (c.next_progress-progress.ensures ∙ (λ j. next_progress a.share a.raw.now (pair_is a.plan i w f a.low_first j) l.progress)
    ∙ one_more a.share (as_plan (Ok a.plan)) a.low_first a.raw.now i l.progress l.invariant)
