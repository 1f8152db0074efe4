-- `refusal::pairs_refusal` meets its contract. The loop's invariant: none of the pairs gone over is refused.
use mathlib.Core.Path.{◌≡◌, sym, ap, ◌∙◌}
use Prim.Native.Nat.{◌≤◌, ◌<◌}
use native.Mathlib.Numerals.{add-one}
use native.Mathlib.Omega.{arith}
use lib.ListN.{length}
use lib.Seq.{length-take-le}
use borrow.Author.Rules.{rules}
use Rattle.std.specs.Prelude.{Ok}
use Rattle.counting.specs.Refusal.{refusal_of}
use Rattle.counting.proofs.Reasons.{some_number}
use Rattle.judging.specs.Plan.{as_plan}
use Rattle.judging.proofs.Checking.{handed_on}
use Rattle.sweeping.proofs.Plans.{sizes_here, refused_here}
use Rattle.sweeping.proofs.Refusals.{none_first, one_free, refused_at}
use Rattle.sweeping.proofs.refusal.pairs_refusal.Goals.{In-loop-pair, Start}
use Rattle.sweeping.proofs.refusal.pairs_refusal.Goals as goal

few : (s : Start) → s.args.plan.pairs ≤ length s.args.plan.sizes
few s = let seven : length s.args.plan.sizes ≡ 7 = search rules in omega (arith, seven, s.requires.sound.few)

within : (d : In-loop-pair) → d.loop-pair.pair-index < d.args.plan.pairs
within d =
    let seven : length d.args.plan.sizes ≡ 7 = search rules in
    omega (arith, d.loop-pair-test.true, length-take-le d.args.plan.pairs d.args.plan.sizes (omega (arith, seven, d.requires.sound.few)))

pub loop-pair-init : goal.loop-pair-init
loop-pair-init c = none_first _ _ _

pub pair_refusal-requires : goal.pair_refusal-requires
pair_refusal-requires c =
    let s = sizes_here c.args.plan c.loop-pair.pair-index (within (goal.at.pair_refusal-requires c).In-loop-pair) (few (goal.at.pair_refusal-requires c).Start) c.requires.sound in
    record { block_size_value = s.valid; k_bound = (s.width, c.requires.words_bound) }

pub loop-pair-preserved : goal.loop-pair-preserved
loop-pair-preserved c =
    let a = c.args in
    let i = c.loop-pair.pair-index in
    let w = within (goal.at.loop-pair-preserved c).In-loop-pair in
    let f = few (goal.at.loop-pair-preserved c).Start in
    rw add-one
    (one_free (as_plan (Ok a.plan)) a.bytes a.room i c.loop-pair.invariant
    (sym (refused_here a.plan i w f a.bytes a.room) ∙ sym c.in_ok-pair_refusal.ensures))

pub returns-in_err-pair_refusal : goal.returns-in_err-pair_refusal
returns-in_err-pair_refusal c =
    let a = c.args in
    let i = c.loop-pair.pair-index in
    let w = within (goal.at.returns-in_err-pair_refusal c).In-loop-pair in
    let f = few (goal.at.returns-in_err-pair_refusal c).Start in
    ap refusal_of (handed_on _ _ c.from_residual.ensures.1)
    ∙ refused_at (as_plan (Ok a.plan)) a.bytes a.room i a.plan.pairs _ w c.loop-pair.invariant
    (c.in_err-pair_refusal.ensures ∙ refused_here a.plan i w f a.bytes a.room) (some_number _)
