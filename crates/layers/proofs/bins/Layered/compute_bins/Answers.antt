-- `Layered::compute_bins` meets its contract: the count of the run is the candidate's own.
use mathlib.Core.Path.{subst}
use Prim.Native.Nat.{ℕ, ◌+◌, ◌-◌, ◌≤◌, ◌<◌}
use native.Mathlib.Omega.{arith}
use lib.ListN.{length}
use Rattle.subsets.proofs.Listing.{bits_below}
use Rattle.layers.specs.Gather.{Tables}
use Rattle.layers.specs.Run.{last_bit}
use Rattle.layers.proofs.Leading.{own_count, as_many}
use Rattle.layers.proofs.bins.Layered.compute_bins.Goals.{Start}
use Rattle.layers.proofs.bins.Layered.compute_bins.Goals as goal

-- the last bit is in the block, and its count in the run's numbers
inside : (s : Start) → last_bit s.args.bits.now < s.args.self.now.stretch.block_size
inside s =
    let b = s.args.bits.now in
    bits_below s.args.self.now.stretch.block_size s.args.self.now.k b s.requires.subset (length b - 1) (omega (arith, s.requires.subset.size, s.args.self.now.width))

room : (s : Start) → 441 + s.args.self.now.stretch.block_size ≤ length s.args.run.now
room s = s.requires.run.tables.tops.room

pub overflow_cast-count : goal.overflow_cast-count
overflow_cast-count c = omega (arith, inside (goal.at.overflow_cast-count c).Start, room (goal.at.overflow_cast-count c).Start, c.well_formed)

pub overflow_add-count : goal.overflow_add-count
overflow_add-count c = omega (arith, inside (goal.at.overflow_add-count c).Start, room (goal.at.overflow_add-count c).Start, c.well_formed)

pub offset_bounds-run-bits : goal.offset_bounds-run-bits
offset_bounds-run-bits c = omega (arith, inside (goal.at.offset_bounds-run-bits c).Start, room (goal.at.offset_bounds-run-bits c).Start, c.well_formed)

pub bounds-run-bits : goal.bounds-run-bits
bounds-run-bits c = omega (arith, inside (goal.at.bounds-run-bits c).Start, room (goal.at.bounds-run-bits c).Start)

pub split_bins-requires : goal.split_bins-requires
split_bins-requires c =
    let a = c.args in
    let size = c.requires.subset.size in
    let some : 1 ≤ length a.bits.now = omega (arith, size, c.requires.wide) in record {
      in_bounds = (some, omega (arith, size));
      subset = as_many a.self.now.stretch.block_size a.self.now.k a.bits.now c.requires.subset;
      count_value = λ _. own_count _ _ a.self.now.stretch.block_size a.bits.now a.run.now some (as_many a.self.now.stretch.block_size a.self.now.k a.bits.now c.requires.subset) c.requires.run;
      tables = subst (λ (m : ℕ). Tables a.self.now.stretch.block_size m a.bits.now a.run.now) size c.requires.run.tables;
      bits_in_bounds = c.requires.bits_in_bounds;
      halved = c.requires.shared (omega (arith, size, c.requires.wide));
    }
