-- `refusal::sweep_plan` meets its contract: each return with what was not refused before.
use mathlib.Core.Path.{◌≡◌, sym, ap, subst, ◌∙◌}
use Prim.Native.Nat.{ℕ}
use Rattle.std.specs.Prelude.{Ok}
use Rattle.counting.specs.Refusal.{refusal_of}
use Rattle.counting.proofs.Reasons.{some_number}
use Rattle.searching.proofs.Refusing.{or_first, or_next}
use Rattle.judging.specs.Plan.{Plan, as_plan, plan_of}
use Rattle.judging.proofs.Checking.{handed_on}
use Rattle.sweeping.specs.Pair.{Sound}
use Rattle.sweeping.specs.Refusal.{level_refusal, pairs_refusal, sweep_refusal}
use Rattle.sweeping.proofs.Plans.{sound}
use Rattle.sweeping.proofs.Refusals.{nothing, something}
use Rattle.sweeping.proofs.refusal.sweep_plan.Goals.{In_ok-level_refusal, In_ok-plan, Else-bytes-lt2}
use Rattle.sweeping.proofs.refusal.sweep_plan.Goals as goal

level_free : (d : In_ok-level_refusal) → level_refusal d.args.level ≡ 0
level_free d = sym d.in_ok-level_refusal.ensures

-- the plan that was made
module _ (d : In_ok-plan) where
  abbrev made : Plan
  made = as_plan (Ok d.in_ok-plan.plan)

  is : made ≡ plan_of d.args.block_size d.args.bytes
  is = d.in_ok-plan.ensures

  free : (plan_of d.args.block_size d.args.bytes).refusal ≡ 0
  free = sym (ap (λ (p : Plan). p.refusal) is)

  sound_made : Sound made
  sound_made = subst Sound (sym is) (sound d.args.block_size d.args.bytes)

pub pairs_refusal-requires : goal.pairs_refusal-requires
pairs_refusal-requires c = record { sound = sound_made (goal.at.pairs_refusal-requires c).In_ok-plan; words_bound = c.requires }

pub returns-in_err-level_refusal : goal.returns-in_err-level_refusal
unfolding sweep_refusal
returns-in_err-level_refusal c =
    let e = c.in_err-level_refusal.ensures in
    let h = handed_on _ _ c.from_residual.ensures.1 in
    record { refusal = ap refusal_of h ∙ e ∙ or_first _ _ (λ z. some_number _ (e ∙ z)); plan = rw h tt }

pub returns-in_err-plan : goal.returns-in_err-plan
unfolding sweep_refusal
returns-in_err-plan c =
    let e = ap (λ (p : Plan). p.refusal) c.in_err-plan.ensures in
    let h = handed_on _ _ c.from_residual-in_err-plan.ensures.1 in
    record {
      refusal = ap refusal_of h ∙ e ∙ or_first _ _ (λ z. some_number _ (e ∙ z)) ∙ or_next _ _ (level_free (goal.at.returns-in_err-plan c).In_ok-level_refusal);
      plan = rw h tt;
    }

pub returns-then-bytes-lt2 : goal.returns-then-bytes-lt2
unfolding sweep_refusal
returns-then-bytes-lt2 c =
    let a = c.args in
    record {
      refusal = nothing (plan_of a.block_size a.bytes) a.bytes c.if-bytes-lt2.true a.room ∙ or_next _ _ (free (goal.at.returns-then-bytes-lt2 c).In_ok-plan) ∙ or_next _ _ (level_free (goal.at.returns-then-bytes-lt2 c).In_ok-level_refusal);
      plan = tt;
    }

-- past the first tests the refusal is that of the pairs
pairs : (d : Else-bytes-lt2) (r : ℕ) → let a = d.args in r ≡ pairs_refusal (as_plan (Ok d.in_ok-plan.plan)) a.bytes a.room d.in_ok-plan.plan.pairs → r ≡ sweep_refusal a.level (plan_of a.block_size a.bytes) a.bytes a.room
unfolding sweep_refusal
pairs d r e =
    let a = d.args in
    let p = plan_of a.block_size a.bytes in
    let o = (goal.at.pairs_refusal-requires d).In_ok-plan in
    e ∙ ap (λ (q : Plan). pairs_refusal q a.bytes a.room q.pairs) (is o)
    ∙ something p a.bytes d.if-bytes-lt2.false (sound a.block_size a.bytes) (free o) _
    ∙ or_next _ _ (free o) ∙ or_next _ _ (level_free (goal.at.pairs_refusal-requires d).In_ok-level_refusal)

pub returns-in_err-pairs_refusal : goal.returns-in_err-pairs_refusal
returns-in_err-pairs_refusal c =
    let h = handed_on _ _ c.from_residual-in_err-pairs_refusal.ensures.1 in
    record { refusal = ap refusal_of h ∙ pairs (goal.at.returns-in_err-pairs_refusal c).Else-bytes-lt2 _ c.in_err-pairs_refusal.ensures; plan = rw h tt }

pub returns : goal.returns
returns c = record { refusal = pairs (goal.at.returns c).Else-bytes-lt2 _ c.in_ok-pairs_refusal.ensures; plan = c.in_ok-plan.ensures }
