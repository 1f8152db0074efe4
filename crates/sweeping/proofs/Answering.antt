-- The answer of a sweep beside a refusal, and where there is none.
use mathlib.Core.Path.{◌≡◌, refl, sym, ap, ◌∙◌}
use mathlib.Core.Bool.{Bool, true, false, cond}
use mathlib.Core.List.{List}
use Prim.Native.Nat.{ℕ, zero, suc}
use lib.ListN.{length}
use Rattle.judging.specs.Plan.{Plan, plan_of}
use Rattle.sweeping.specs.Progress.{progress_to}
use Rattle.sweeping.specs.Refusal.{sweep_refusal}
use Rattle.sweeping.specs.Sweep.{Swept, share_of, answer_of, refused_sweep, swept_with, swept_of, number_with, swept_number}
use Rattle.sweeping.specs.Verdict.{verdict_of, verdict_number}
use Rattle.sweeping.specs.declared.refusal.Room.{Room}

refused_with : (r a : ℕ) (plan : Plan) (low : Bool) (raw : List ℕ) → (r ≡ 0 → ⊥) → refused_sweep r ≡ swept_with r a plan low raw
refused_with zero a plan low raw h = absurd (h refl)
refused_with (suc r) a plan low raw h = refl

module _ (a B : ℕ) (low : Bool) (raw : List ℕ) (lent : Room) (r : ℕ) (is : r ≡ sweep_refusal a (plan_of B (length raw)) (length raw) lent) where
  abbrev plan : Plan
  plan = plan_of B (length raw)

  pub refused_answer : (r ≡ 0 → ⊥) → refused_sweep r ≡ swept_of a B low raw lent
  unfolding swept_of
  refused_answer h = refused_with r a plan low raw h ∙ ap (λ (x : ℕ). swept_with x a plan low raw) is

  pub taken_answer : r ≡ 0 → answer_of (progress_to (share_of a plan) plan low raw plan.pairs) ≡ swept_of a B low raw lent
  unfolding swept_of
  taken_answer none = ap (λ (x : ℕ). swept_with x a plan low raw) (sym none ∙ is)

-- ---- the verdict's number

number_is : (r a : ℕ) (plan : Plan) (low : Bool) (raw : List ℕ)
    → verdict_number (swept_with r a plan low raw).verdict ≡ number_with r (progress_to (share_of a plan) plan low raw plan.pairs)
number_is (suc r) a plan low raw = refl
number_is zero a plan low raw = by_tests (progress_to (share_of a plan) plan low raw plan.pairs).rejected (progress_to (share_of a plan) plan low raw plan.pairs).below
  where
    by_tests : (rejected below : Bool) → verdict_number (verdict_of rejected below) ≡ cond rejected 1 (cond below 0 2)
    by_tests true below = refl
    by_tests false true = refl
    by_tests false false = refl

pub answer_number : (a B : ℕ) (low : Bool) (raw : List ℕ) (lent : Room) (r : Swept) → r ≡ swept_of a B low raw lent → verdict_number r.verdict ≡ swept_number a B low raw lent
unfolding swept_of swept_number
answer_number a B low raw lent r is =
    ap (λ (x : Swept). verdict_number x.verdict) is ∙ number_is (sweep_refusal a (plan_of B (length raw)) (length raw) lent) a (plan_of B (length raw)) low raw
