-- `gather::gather_ones` meets its contract: number by number.
use Prim.Native.Nat.{ℕ, ◌-◌, ◌^◌, ◌≤◌, max}
use lib.ListN.{length}
use Rattle.layers.proofs.Gathering.{Parts, Entries}
use Rattle.layers.proofs.gather.gather_ones.Given as goal

abbrev pub invariant-loop-u : goal.invariant-loop-u
invariant-loop-u l =
    let from : ℕ = 2 ^ (length l.bits - 1) in
    (from ≤ l.u) × (l.u ≤ max from l.end) × Parts l.block_size l.bits l.initial.parts from 1 l.u l.parts × Entries l.block_size l.k l.bits l.store l.initial.bins from l.u l.bins
