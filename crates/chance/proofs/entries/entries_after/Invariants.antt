-- `entries::entries_after` meets its contract: after t blocks the row of t blocks stands at the start, and only zeros are outside `from` and `to`.
use mathlib.Core.Path.{◌≡◌}
use lib.ListN.{length}
use Rattle.chance.proofs.Filling.{Filling, Ended}
use Rattle.chance.proofs.entries.entries_after.Given as goal

abbrev pub invariant-loop-t : goal.invariant-loop-t
invariant-loop-t l =
    (length l.scratch ≡ length l.initial.scratch) × Filling l.t l.k l.d l.initial.scratch l.scratch × Ended l.t l.k l.d l.from l.to
