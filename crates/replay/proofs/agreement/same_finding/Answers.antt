-- `agreement::same_finding` meets its contract: each return rewrites with the tests that led there.
use mathlib.Core.Path.{◌≡◌, sym, ap, ◌∙◌}
use Prim.Native.Nat.{min}
use native.Mathlib.Omega.{arith}
use Rattle.std.proofs.Common.{rules}
use lib.ListN.{length}
use borrow.Author.Tests.{eq-eqb, ne_eqb}
use Rattle.std.proofs.lemmas.Bool.{not-true, not-false}
use Rattle.std.proofs.Math.Bool.{and-false}
use Rattle.replay.specs.Agreement.{same_to, same_finding}
use Rattle.replay.proofs.Comparing.{alike_is, slices_same}
use Rattle.replay.proofs.agreement.same_finding.Goals.{Start, After-eq, then-a-b-via-then-a-b, then-a-b-via-else-a-b+then-a-b-2, then-a-b-via-else-a-b+else-a-b-2+then-a-b-3, then-a-b-via-else-a-b+else-a-b-2+else-a-b-3+then-a-b-4}
use Rattle.replay.proofs.agreement.same_finding.Goals as goal

sizes : (s : Start) → (length s.args.a.bits ≡ 20) × (length s.args.b.bits ≡ 20)
sizes s = (search rules, search rules)

-- as many bits were compared as the definition says
bits_same : (c : After-eq) → (length c.args.a.bits ≡ 20) × (length c.args.b.bits ≡ 20) → same_to c.args.a.bits c.args.b.bits (min c.args.a.width 20) ≡ c.eq.result
bits_same c size =
    let a = c.args in
    let m = c.min-width in
    ap (same_to a.a.bits a.b.bits) (sym m.ensures) ∙ sym (c.eq.ensures ∙ slices_same a.a.bits a.b.bits m.result (omega arith) (omega arith))

pub returns-then-a-b : goal.returns-then-a-b
unfolding same_finding
returns-then-a-b c = elim c.then-a-b.branch [
  | then-a-b-via-then-a-b w ↦ simp (ne_eqb _ _ w.if-a-b.true)
  | then-a-b-via-else-a-b+then-a-b-2 w ↦ simp (eq-eqb _ _ w.if-a-b.false, ne_eqb _ _ w.if-a-b-2.true)
  | then-a-b-via-else-a-b+else-a-b-2+then-a-b-3 w ↦ simp (eq-eqb _ _ w.if-a-b.false, eq-eqb _ _ w.if-a-b-2.false, ne_eqb _ _ w.if-a-b-3.true)
  | then-a-b-via-else-a-b+else-a-b-2+else-a-b-3+then-a-b-4 w ↦
      simp (
        eq-eqb _ _ w.if-a-b.false,
        eq-eqb _ _ w.if-a-b-2.false,
        eq-eqb _ _ w.if-a-b-3.false,
        alike_is c.args.a.low_first c.args.b.low_first ∙ not-true _ w.if-a-b-4.true,
        and-false (same_to c.args.a.bits c.args.b.bits (min c.args.a.width 20)),
      )
]

pub returns-then-eq : goal.returns-then-eq
unfolding same_finding
returns-then-eq c =
    simp (
      eq-eqb _ _ c.if-a-b.false,
      eq-eqb _ _ c.if-a-b-2.false,
      eq-eqb _ _ c.if-a-b-3.false,
      bits_same (goal.at.returns-then-eq c).After-eq (sizes (goal.at.returns-then-eq c).Start) ∙ c.if-eq.true,
      alike_is c.args.a.low_first c.args.b.low_first ∙ not-false _ c.if-a-b-4.false,
    )

pub returns-else-eq : goal.returns-else-eq
unfolding same_finding
returns-else-eq c =
    simp (
      eq-eqb _ _ c.if-a-b.false,
      eq-eqb _ _ c.if-a-b-2.false,
      eq-eqb _ _ c.if-a-b-3.false,
      bits_same (goal.at.returns-else-eq c).After-eq (sizes (goal.at.returns-else-eq c).Start),
      c.if-eq.false,
    )
