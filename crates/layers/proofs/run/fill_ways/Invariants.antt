-- `run::fill_ways` meets its contract. The loop's invariant: the ways above the first i bits stand.
use mathlib.Core.Path.{◌≡◌}
use lib.ListN.{length}
use Rattle.layers.proofs.Running.{Ways}
use Rattle.layers.proofs.run.fill_ways.Given as goal

abbrev pub invariant-loop-i : goal.invariant-loop-i
invariant-loop-i l = (length l.run ≡ length l.initial.run) × Ways l.block_size (length l.bits) l.bits l.i l.run
