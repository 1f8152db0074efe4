-- `columns::put_columns` meets its contract: after i turns the first i characters stand in the buffer.
use mathlib.Core.Path.{◌≡◌}
use lib.ListN.{length}
use Rattle.counting.specs.Buffer.{put}
use Rattle.sheet.proofs.Writing.{front}
use Rattle.sheet.proofs.columns.put_columns.Given as goal

abbrev pub invariant-loop-i : goal.invariant-loop-i
invariant-loop-i l = (l.out ≡ put l.initial.out l.at (front l.width l.value l.i)) × (length l.out ≡ length l.initial.out)
