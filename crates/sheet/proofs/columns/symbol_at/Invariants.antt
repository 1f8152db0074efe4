-- `columns::symbol_at` meets its contract: after each turn the number has been divided by 10 once more.
use Prim.Native.Nat.{◌/◌, ◌^◌}
use mathlib.Core.Path.{◌≡◌}
use Rattle.sheet.proofs.columns.symbol_at.Given as goal

abbrev pub invariant-loop-turn : goal.invariant-loop-turn
invariant-loop-turn l = l.rest ≡ l.value / 10 ^ l._turn
