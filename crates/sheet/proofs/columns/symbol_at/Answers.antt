-- `columns::symbol_at` meets its contract: after each turn the number has been divided by 10 once more.
use Prim.Native.Nat.{ℕ, ◌/◌, ◌^◌}
use mathlib.Core.Path.{◌≡◌, ap, ◌∙◌}
use native.Mathlib.Omega.{arith}
use Rattle.sheet.specs.Columns.{symbol, symbol_at}
use Rattle.sheet.proofs.Writing.{shifted_none, shifted_more}
use Rattle.sheet.proofs.columns.symbol_at.Goals as goal

pub loop-turn-init : goal.loop-turn-init
loop-turn-init c = shifted_none c.args.value

pub loop-turn-preserved : goal.loop-turn-preserved
loop-turn-preserved c = ap (λ (r : ℕ). r / 10) c.loop-turn.invariant ∙ shifted_more c.args.value c.loop-turn._turn

pub returns : goal.returns
unfolding symbol_at
returns c =
    let all : c.loop-turn._turn ≡ c.args.place = omega arith in
    c.symbol_of.ensures ∙ ap (symbol c.args.place) (c.loop-turn.invariant ∙ ap (λ (i : ℕ). c.args.value / 10 ^ i) all)
