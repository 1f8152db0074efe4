-- `ranking::fill_roots` meets its contract. The invariant: the entries from 1 to i - 1 are worked out.
use mathlib.Core.Path.{◌≡◌}
use Prim.Native.Nat.{ℕ, ◌-◌, ◌≤◌, ◌<◌}
use mathlib.Core.List.{List}
use lib.ListN.{length, get_or}
use lib.Ieee.{Float, nan}
use Rattle.scoring.specs.Halves.{part}
use Rattle.scoring.specs.Score.{deviation}
use Rattle.ranking.proofs.ranking.fill_roots.Given as goal

-- the entries from 1 to i - 1 are worked out
abbrev pub Filled : ℕ → ℕ → List Float → ℕ → Type 0
Filled n k roots i = (j : ℕ) → 1 ≤ j → j < i → j < length roots → get_or roots j nan ≡ deviation n (part j k)

abbrev pub invariant-loop-i : goal.invariant-loop-i
invariant-loop-i l = (length l.roots ≡ length l.initial.roots) × (1 ≤ l.i) × Filled l.n l.k l.roots l.i

abbrev pub decreases-loop-i : goal.decreases-loop-i
decreases-loop-i l = length l.initial.roots - l.i
