-- `rows::all_marked` meets its contract: every bit is 1.
use lib.ListN.{length-replicate}
use Prim.Native.Nat.{ℕ}
use mathlib.Core.Path.{sym}
use native.Mathlib.Omega.{arith}
use Rattle.counting.proofs.Stretches.{marked_ones}
use Rattle.counting.proofs.rows.all_marked.Goals as goal

pub returns : goal.returns
returns g c = record { value = sym (length-replicate _ _); marked_from = λ e h. marked_ones g.row.N e (omega (arith, length-replicate {A = ℕ} g.row.N 18446744073709551615)) }
