-- `columns::put_fields` meets its contract: after i turns the first i numbers stand in the buffer.
use Prim.Native.Nat.{◌+◌, ◌*◌}
use mathlib.Core.Path.{◌≡◌}
use lib.ListN.{length, take}
use Rattle.sheet.specs.Columns.{fields}
use Rattle.counting.specs.Buffer.{put}
use Rattle.sheet.proofs.columns.put_fields.Given as goal

abbrev pub invariant-loop-value : goal.invariant-loop-value
invariant-loop-value l =
    (l.out ≡ put l.initial.out l.at (fields l.width (take l.value-index l.values))) × (l.to ≡ l.at + l.width * l.value-index) × (length l.out ≡ length l.initial.out)
