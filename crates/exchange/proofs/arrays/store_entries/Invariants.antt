-- `arrays::store_entries` meets its contract. The loop's invariant: the first numbers are stored, and the others are read of what is left.
use Rattle.std.proofs.Common.{◌≡◌, ℕ, ◌<◌, List, length, take}
use Rattle.std.proofs.Math.Option.{some}
use Rattle.exchange.specs.Arrays.{numbers_in}
use Rattle.exchange.proofs.Turning.{entries_from}
use Rattle.exchange.proofs.arrays.store_entries.Given as goal

-- the numbers ns past the first n are read of the bytes s
abbrev pub Left : List ℕ → List ℕ → ℕ → Type 0
Left s ns n = (t : List ℕ) × (entries_from (take n ns) s ≡ some (ns, t))

abbrev pub invariant-loop-entry : goal.invariant-loop-entry
invariant-loop-entry l =
    (take l.entry-index l.to ≡ take l.entry-index (numbers_in l.s)) × (l.entry-index < length l.to → Left l.left (numbers_in l.s) l.entry-index)
