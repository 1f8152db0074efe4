-- `Layered::count_run` meets its contract: the counts of the run, or of the single bits, are put where they belong.
use Prim.Native.Nat.{◌+◌, ◌-◌, ◌≤◌, ◌<◌}
use mathlib.Core.Path.{◌≡◌, sym, ◌∙◌}
use native.Mathlib.Omega.{arith}
use lib.ListN.{length}
use lib.Seq.{length-take-le}
use borrow.Rule.Slice.PartMut.{mid_of, mid_len}
use Rattle.counting.specs.Stretch.{span, stretch_bit}
use Rattle.counting.proofs.Halves.{rows_init}
use Rattle.subsets.proofs.Listing.{bits_below}
use Rattle.layers.specs.Run.{last_bit, leading}
use Rattle.layers.proofs.Leading.{as_many, held}
use Rattle.layers.proofs.Running.{store_room, part_spares, counted_run, counted_single, rows_in}
use Rattle.layers.proofs.bins.Layered.count_run.Goals.{Start}
use Rattle.layers.proofs.bins.Layered.count_run.Goals as goal

-- the last bit is in the block
inside : (s : Start) → last_bit s.args.bits.now < s.args.self.now.stretch.block_size
inside s =
    let b = s.args.bits.now in
    bits_below s.args.self.now.stretch.block_size s.args.self.now.k b s.requires.subset (length b - 1) (omega (arith, s.requires.subset.size, s.args.self.now.width))

-- the store has a count for each single bit
room : (s : Start) → s.args.self.now.stretch.block_size ≤ length s.args.self.now.store.now
room s = omega (arith, store_room s.args.self.now.stretch.block_size s.args.self.now.k, s.args.self.now.holds.roomy.room)

pub slice_bounds-copy-end : goal.slice_bounds-copy-end
slice_bounds-copy-end c =
    sym (length-take-le c.args.self.now.stretch.block_size c.args.self.now.store.now (room (goal.at.slice_bounds-copy-end c).Start))

pub copy-requires : goal.copy-requires
copy-requires c =
    let a = c.args in
    let B = a.self.now.stretch.block_size in
    let e : B ≡ 441 + B - 441 = omega arith in
    mid_len 441 (441 + B) a.run.now c.requires.block_size_in_bounds ∙ sym e ∙ sym (length-take-le B a.self.now.store.now (room (goal.at.copy-requires c).Start))

pub returns-then-at-eq0 : goal.returns-then-at-eq0
returns-then-at-eq0 c =
    let a = c.args in
    let B = a.self.now.stretch.block_size in record {
      by_index = λ b l h.
          counted_single (stretch_bit a.self.now.stretch a.self.now.words.now) (span a.self.now.stretch) B a.bits.now a.run.now a.self.now.store.now c.copy.new.to c.if-at-eq0.true
          c.requires.block_size_in_bounds (held (stretch_bit a.self.now.stretch a.self.now.words.now) (span a.self.now.stretch) B a.self.now.k a.bits.now a.self.now.store.now c.requires.subset c.args.self.now.holds) c.copy.ensures b h;
      run_unchanged = part_spares 441 441 (441 + B - 441) a.run.now c.copy.new.to (omega arith) (omega (arith, c.requires.block_size_in_bounds));
    }

pub slice_bounds-multi_eval-count : goal.slice_bounds-multi_eval-count
slice_bounds-multi_eval-count c = omega (arith, inside (goal.at.slice_bounds-multi_eval-count c).Start)

pub slice_bounds-multi_eval-start : goal.slice_bounds-multi_eval-start
slice_bounds-multi_eval-start c = omega (arith, inside (goal.at.slice_bounds-multi_eval-start c).Start)

pub multi_eval-requires : goal.multi_eval-requires
multi_eval-requires c =
    let a = c.args in
    let b = a.bits.now in
    let x = last_bit b in
    let B = a.self.now.stretch.block_size in
    let size : length (leading b) ≡ length b - 1 = length-take-le (length b - 1) b (omega arith) in
    let rows = rows_init a.self.now.words.now a.self.now.stretch.stride b (length b - 1) (rows_in B (length b) a.self.now.stretch.stride a.self.now.words.now b (as_many B a.self.now.k b c.requires.subset) c.requires.stretch_in.0) in
    let all : x + length (mid_of (441 + x) (441 + B - (441 + x)) a.run.now) ≡ B = omega (arith, inside (goal.at.multi_eval-requires c).Start, mid_len (441 + x) (441 + B) a.run.now c.requires.block_size_in_bounds) in
    record {
      bits_len_bound = omega (arith, size, c.requires.subset.size, c.args.self.now.width);
      rows_in = rows;
      within = c.requires.stretch_in.1;
      counts_bound = (omega (arith, all, c.requires.block_size_bound), rw all c.requires.stretch_in.0);
    }

pub returns : goal.returns
returns c =
    let a = c.args in
    let x = last_bit a.bits.now in
    let B = a.self.now.stretch.block_size in record {
      by_index = counted_run (stretch_bit a.self.now.stretch a.self.now.words.now) (span a.self.now.stretch) B a.bits.now a.run.now c.multi_eval.new.counts
          (inside (goal.at.returns c).Start) c.requires.block_size_in_bounds c.multi_eval.auto.counts c.multi_eval.ensures;
      run_unchanged = part_spares 441 (441 + x) (441 + B - (441 + x)) a.run.now c.multi_eval.new.counts (omega arith) (omega (arith, inside (goal.at.returns c).Start, c.requires.block_size_in_bounds));
    }
