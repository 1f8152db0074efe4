-- `header::is_written` meets its contract: from the last column back, while they match what is left decides.
use Prim.Native.Nat.{ℕ, ◌+◌, ◌-◌}
use mathlib.Core.Path.{◌≡◌, ap, sym, ◌∙◌}
use native.Mathlib.Omega.{arith}
use Rattle.sheet.specs.Header.{match_to}
use Rattle.sheet.proofs.Reading.{match_more, match_none, match_all}
use Rattle.sheet.proofs.header.is_written.Goals as goal

pub returns-then-input-at : goal.returns-then-input-at
returns-then-input-at c =
    let a = c.args in
    let i : ℕ = c.loop-i.i in
    let back : i - 1 + 1 ≡ i = omega arith in
    sym (match_none a.input.now a.at 6 a.n (i - 1) (λ e. c.if-input-at.true (e ∙ sym c.symbol_at.ensures)))
    ∙ ap (match_to a.input.now a.at 6 a.n) back ∙ c.loop-i.invariant.0

pub loop-i-preserved : goal.loop-i-preserved
loop-i-preserved c =
    let a = c.args in
    let i : ℕ = c.loop-i.i in
    let back : i - 1 + 1 ≡ i = omega arith in (
      sym (match_more a.input.now a.at 6 a.n (i - 1) (c.if-input-at.false ∙ c.symbol_at.ensures))
          ∙ ap (match_to a.input.now a.at 6 a.n) back ∙ c.loop-i.invariant.0,
      omega arith,
    )

pub returns : goal.returns
returns c =
    let a = c.args in
    let none : c.loop-i.i ≡ 0 = omega arith in
    sym (match_all a.input.now a.at 6 a.n) ∙ ap (match_to a.input.now a.at 6 a.n) (sym none) ∙ c.loop-i.invariant.0
