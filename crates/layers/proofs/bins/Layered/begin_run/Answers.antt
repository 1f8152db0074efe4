-- `Layered::begin_run` meets its contract: the ways, then the counts, which leave the tables, then the bins of the leading bits.
use Prim.Native.Nat.{◌≤◌}
use native.Mathlib.Omega.{arith}
use lib.ListN.{length}
use Rattle.counting.specs.Stretch.{span, stretch_bit}
use Rattle.layers.specs.Gather.{Tables}
use Rattle.layers.proofs.Leading.{as_many, held}
use Rattle.layers.proofs.Running.{tables_stay}
use Rattle.layers.proofs.bins.Layered.begin_run.Goals.{After-count_run}
use Rattle.layers.proofs.bins.Layered.begin_run.Goals as goal

-- ---- the places: the entry, the ways worked out, the counts

-- the tables stand once the counts do
tables : (d : After-count_run)
    → let a = d.args in Tables a.self.now.stretch.block_size (length a.bits.now) a.bits.now d.count_run.new.run
tables d =
    let a = d.args in
    let few : length a.bits.now ≤ 20 = omega (arith, d.requires.subset.size, a.self.now.width) in
    tables_stay a.self.now.stretch.block_size (length a.bits.now) a.bits.now d.fill_ways.new.run d.count_run.new.run few few
    d.count_run.auto.run d.count_run.ensures.run_unchanged d.fill_ways.ensures

pub fill_ways-requires : goal.fill_ways-requires
fill_ways-requires c =
    let a = c.args in
    let size = c.requires.subset.size in
    record {
      in_bounds = (omega (arith, size, a.self.now.width), omega (arith, size, a.self.now.width), c.requires.block_size_bound);
      subset = as_many a.self.now.stretch.block_size a.self.now.k a.bits.now c.requires.subset;
      bits_bound = (held (stretch_bit a.self.now.stretch a.self.now.words.now) (span a.self.now.stretch) a.self.now.stretch.block_size a.self.now.k a.bits.now a.self.now.store.now c.requires.subset a.self.now.holds).roomy.few;
      tops = c.requires.tops;
    }

pub count_run-requires : goal.count_run-requires
count_run-requires c =
    record {
      block_size_bound = c.requires.block_size_bound;
      subset = c.requires.subset;
      stretch_in = c.requires.stretch_in;
      block_size_in_bounds = c.fill_ways.ensures.tops.room;
    }

pub share_bins-requires : goal.share_bins-requires
share_bins-requires c =
    record {
      within = c.requires.stretch_in.1;
      subset = c.requires.subset;
      tables = tables (goal.at.share_bins-requires c).After-count_run;
      bits_in_bounds = c.requires.bits_in_bounds;
    }

pub returns : goal.returns
returns c =
    record {
      run = record { tables = tables (goal.at.returns c).After-count_run; counted = c.count_run.ensures.by_index };
      shared = c.share_bins.ensures.shared;
      bins_unchanged = c.share_bins.ensures.bins_unchanged;
      parts_unchanged = (c.share_bins.ensures.parts_unchanged);
    }
