-- `arrays::count_entries` meets its contract: each turn is one turn of the definition, from the numbers so far.
use Rattle.std.proofs.Common.{◌≡◌, ℕ, ◌+◌, ◌≤◌, List, [], length}
use Rattle.exchange.proofs.Turning.{entries_from}
use Rattle.exchange.proofs.arrays.count_entries.Given as goal

abbrev pub invariant-loop-behind : goal.invariant-loop-behind
invariant-loop-behind l = (l.count + length l.left ≤ length l.s) × ((ns : List ℕ) × (length ns ≡ l.count) × (entries_from [] l.s ≡ entries_from ns l.left))

abbrev pub decreases-loop-behind : goal.decreases-loop-behind
decreases-loop-behind l = length l.left
