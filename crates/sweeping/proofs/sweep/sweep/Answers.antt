-- `sweep::sweep` meets its contract: refused, everything is as lent; else the pairs of the plan are gone through.
use mathlib.Core.Path.{◌≡◌, refl, sym, ap, subst, ◌∙◌}
use native.Mathlib.Omega.{arith}
use lib.ListN.{length}
use Rattle.std.specs.Prelude.{Ok}
use Rattle.counting.proofs.Reasons.{some_number}
use Rattle.judging.specs.Plan.{Plan, as_plan, plan_of}
use Rattle.judging.proofs.Checking.{handed_on}
use Rattle.sweeping.specs.Pair.{Sound}
use Rattle.sweeping.specs.Progress.{progress_to}
use Rattle.sweeping.specs.Refusal.{pairs_refusal, sweep_refusal}
use Rattle.sweeping.specs.Sweep.{as_swept, room_of, share_of, answer_of}
use Rattle.sweeping.specs.declared.refusal.Room.{Room}
use Rattle.sweeping.proofs.Plans.{sound}
use Rattle.sweeping.proofs.Refusals.{sweep_free}
use Rattle.sweeping.proofs.Answering.{refused_answer, taken_answer, answer_number}
use Rattle.sweeping.proofs.sweep.sweep.Goals.{In_ok-plan, Start}
use Rattle.sweeping.proofs.sweep.sweep.Goals as goal

-- how many entries are lent
abbrev lent : Start → Room
lent s = let a = s.args in room_of a.words.now a.bins.now a.order.now a.scratch.now a.entries.now

module _ (e : In_ok-plan) where
  abbrev plan : Plan
  plan = as_plan (Ok e.in_ok-plan.plan)

  abbrev room : Room
  room = lent (goal.at.nonzero_div-share e).Start

  plan_is : plan ≡ plan_of e.args.block_size (length e.args.raw.now)
  plan_is = e.in_ok-plan.ensures.plan

  plan_sound : Sound plan
  plan_sound = subst Sound (sym plan_is) (sound e.args.block_size (length e.args.raw.now))

  -- what no refusal tells of the plan
  free : pairs_refusal plan (length e.args.raw.now) room plan.pairs ≡ 0
  free =
      (sweep_free e.args.level plan (length e.args.raw.now) room
      (ap (λ (p : Plan). sweep_refusal e.args.level p (length e.args.raw.now) room) plan_is ∙ sym e.in_ok-plan.ensures.refusal)).1

pub returns-in_err-plan : goal.returns-in_err-plan
returns-in_err-plan c =
    let a = c.args in
    let r = c.from_residual.result in
    let answered = ap as_swept (handed_on r _ c.from_residual.ensures.1)
    ∙ refused_answer a.level a.block_size a.low_first a.raw.now (lent (goal.at.returns-in_err-plan c).Start) _ c.in_err-plan.ensures.refusal (some_number _) in record {
      value = answered;
      lent_where_refused = ((λ h. refl), (λ h. refl), (λ h. refl), (λ h. refl), (λ h. refl), (λ h. refl));
      verdict_value = answer_number a.level a.block_size a.low_first a.raw.now (lent (goal.at.returns-in_err-plan c).Start) (as_swept r) answered;
    }

pub nonzero_div-share : goal.nonzero_div-share
nonzero_div-share c = omega (arith, ((plan_sound c).first refl).0)

pub sweep_pairs-progress-requires : goal.sweep_pairs-progress-requires
sweep_pairs-progress-requires c = let e = (goal.at.sweep_pairs-progress-requires c).In_ok-plan in record { sound = plan_sound e; pairs_value = free e }

pub returns : goal.returns
returns c =
    let a = c.args in
    let e = (goal.at.returns c).In_ok-plan in
    let answered = c.answer.ensures ∙ ap answer_of c.sweep_pairs-progress.ensures
    ∙ ap (λ (p : Plan). answer_of (progress_to (share_of a.level p) p a.low_first a.raw.now p.pairs)) (plan_is e)
    ∙ taken_answer a.level a.block_size a.low_first a.raw.now (lent (goal.at.returns c).Start) 0 c.in_ok-plan.ensures.refusal refl in record {
      value = answered;
      lent_where_refused = ((λ h. absurd (h refl)), (λ h. absurd (h refl)), (λ h. absurd (h refl)), (λ h. absurd (h refl)), (λ h. absurd (h refl)), (λ h. absurd (h refl)));
      verdict_value = answer_number a.level a.block_size a.low_first a.raw.now (lent (goal.at.returns c).Start) (as_swept (Ok c.answer.result)) answered;
    }
