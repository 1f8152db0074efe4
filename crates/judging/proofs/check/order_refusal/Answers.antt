-- `check::order_refusal` meets its contract: the first 2 ^ k entries are lent to the test.
use mathlib.Core.Path.{◌≡◌, sym, ap, ◌∙◌}
use Prim.Native.Nat.{ℕ, ◌^◌}
use native.Mathlib.Omega.{arith}
use lib.ListN.{length, take}
use lib.Seq.{length-take-le}
use Rattle.judging.specs.Permutation.{each_once}
use Rattle.judging.specs.Check.{division_refusal, order_refusal}
use Rattle.judging.proofs.check.order_refusal.Goals.{After-is_permutation}
use Rattle.judging.proofs.check.order_refusal.Goals as goal

-- what the test says of the 2 ^ k bins
tested : (e : After-is_permutation) → let a = e.args in
    e.is_permutation.result ≡ each_once (2 ^ a.k) a.order.now
tested e =
    let a = e.args in
    let lent : length (take e.bin_count-m.result a.scratch.now) ≡ 2 ^ a.k =
    length-take-le e.bin_count-m.result a.scratch.now (omega (arith, e.requires.1, e.bin_count-m.ensures)) ∙ e.bin_count-m.ensures in
    e.is_permutation.ensures.value ∙ ap (λ (m : ℕ). each_once m a.order.now) lent

pub returns-then-not-is_permutation-clause-value : goal.returns-then-not-is_permutation-clause-value
unfolding order_refusal
returns-then-not-is_permutation-clause-value c =
    simp (sym (tested (goal.at.returns-then-not-is_permutation-clause-value c).After-is_permutation) ∙ c.if-not-is_permutation.true)

pub returns-clause-value : goal.returns-clause-value
unfolding order_refusal
returns-clause-value c =
    c.division_refusal.ensures ∙ ap (division_refusal c.args.division) c.bin_count-m.ensures
    ∙ simp (sym (tested (goal.at.returns-clause-value c).After-is_permutation) ∙ c.if-not-is_permutation.false)
