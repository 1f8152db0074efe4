-- `gather::gather_fours` meets its contract: four numbers at a turn.
use Prim.Native.Nat.{ℕ, ◌-◌, ◌*◌, ◌^◌, ◌≤◌, min}
use lib.ListN.{length}
use Rattle.layers.proofs.Gathering.{Parts, Entries}
use Rattle.layers.proofs.gather.gather_fours.Given as goal

abbrev pub invariant-loop-four : goal.invariant-loop-four
invariant-loop-four l =
    let from : ℕ = 2 ^ (length l.bits - 1) in
    let u : ℕ = 4 * l.four in
    (from ≤ u) × Parts l.block_size l.bits l.initial.parts from 4 u l.parts × Entries l.block_size l.k l.bits l.store l.initial.bins from (min u l.end) l.bins
