-- `entries::next_row` meets its contract: `Making`, from `to` down to `from`.
use Prim.Native.Nat.{◌≤◌}
use Rattle.chance.proofs.InPlace.{Making}
use Rattle.chance.proofs.entries.next_row.Given as goal

abbrev pub invariant-loop-j : goal.invariant-loop-j
invariant-loop-j l = Making l.odds.k l.odds.d l.m l.initial.scratch l.j l.scratch × (l.from ≤ l.j)
