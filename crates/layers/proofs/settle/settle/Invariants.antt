-- `settle::settle` meets its contract: place after place.
use Prim.Native.Nat.{ℕ, ◌≤◌}
use mathlib.Core.List.{List}
use Rattle.layers.specs.Settle.{Settles}
use Rattle.layers.proofs.Staging.{Stage}
use Rattle.layers.proofs.settle.settle.Given as goal

-- upper₀ is what the first places left, so the stage is that of every list from which they led there
abbrev pub invariant-loop-i : goal.invariant-loop-i
invariant-loop-i l = (l.i ≤ l.j) × ((b₀ : List ℕ) → Settles l.j b₀ → Stage l.j b₀ l.initial.i l.initial.upper → Stage l.j b₀ l.i l.upper)
