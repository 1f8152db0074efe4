-- `header::field_at` meets its contract: after i turns n is what the first i columns make.
use Prim.Native.Nat.{◌<◌}
use mathlib.Core.Path.{◌≡◌}
use Rattle.sheet.specs.Header.{read_to}
use Rattle.sheet.proofs.header.field_at.Given as goal

abbrev pub invariant-loop-i : goal.invariant-loop-i
invariant-loop-i l = (l.n ≡ read_to l.input l.at l.i) × (l.n < 1000000)
