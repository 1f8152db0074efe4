-- `jimrawel_configurations` meets its contract: the plan written.
use mathlib.Core.Path.{refl, sym, ap, subst, ◌∙◌}
use mathlib.Core.List.{List}
use Prim.Native.Nat.{ℕ}
use native.Mathlib.Omega.{arith}
use Rattle.std.specs.Result.{result_unwrap_or}
use Rattle.std.specs.Prelude.{Ok}
use Rattle.judging.specs.Plan.{as_plan}
use Rattle.judging.specs.declared.plan.Plan as planned
use Rattle.exports.specs.Records.{plan_numbers, written}
use Rattle.exports.specs.Calls.{PlanCall}
use Rattle.exports.proofs.Asking.{plan_is}
use Rattle.exports.proofs.Calling.{plan_made}
use Rattle.exports.proofs.jimrawel_configurations.Goals as goal

pub returns-then-plan-lt15 : goal.returns-then-plan-lt15
returns-then-plan-lt15 c = record { made = λ m. absurd (omega (arith, c.if-plan-lt15.true)); short = λ s. (refl, refl) }

pub returns : goal.returns
returns c =
    let a = c.args in
    let x = c.configurations-planned.result in
    let i = plan_is x in
    let numbers = ap (λ (p : planned.Plan). plan_numbers (as_plan (Ok p))) (c.unwrap_or.ensures ∙ ap (result_unwrap_or x) c.no_plan.ensures) ∙ i.1 in
    subst (λ (r : ℕ). PlanCall a.block_size a.data_size a.plan.now r c.write_plan.new.numbers) (sym (c.refusal_of-refusal.ensures ∙ i.0))
    (plan_made a.block_size a.data_size a.plan.now (as_plan x) _ c.if-plan-lt15.false c.configurations-planned.ensures
    (c.write_plan.ensures ∙ ap (λ (l : List ℕ). written l a.plan.now) numbers))
