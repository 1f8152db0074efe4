-- `header::is_written` meets its contract: from the last column back, while they match what is left decides.
use Prim.Native.Nat.{◌≤◌}
use mathlib.Core.Path.{◌≡◌}
use Rattle.sheet.specs.Header.{match_to}
use Rattle.sheet.proofs.header.is_written.Given as goal

abbrev pub invariant-loop-i : goal.invariant-loop-i
invariant-loop-i l = (match_to l.input l.at 6 l.n l.i ≡ match_to l.input l.at 6 l.n 6) × (l.i ≤ 6)
