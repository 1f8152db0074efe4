-- `Pass::walk` meets its contract: after each step the best so far beats every subset up to the current one.
use mathlib.Core.Path.{◌≡◌}
use Prim.Native.Nat.{◌-◌, ◌^◌}
use lib.ListN.{length, take}
use Rattle.counting.specs.Sample.{counts_of}
use Rattle.counting.specs.Stretch.{span, stretch_bit}
use Rattle.subsets.specs.Choose.{choose}
use Rattle.subsets.specs.Rank.{rank_of}
use Rattle.searching.specs.Pass.{store_in, Standing, PastSame}
use Rattle.searching.proofs.Walking.{Walked}
use Rattle.searching.proofs.pass.Pass.walk.Given as goal

-- of the current subset the run stands, and its counts are first in the bin buffer: a step needs both
abbrev pub invariant-pass : goal.invariant-pass
invariant-pass l = record {
  walked : Walked (stretch_bit l.self.sample.stretch l.self.sample.words.now) (span l.self.sample.stretch) l.self.sample.stretch.block_size l.self.sample.k l.bits l.best l.z;
  run_lent : length l.run ≡ length l.initial.run;
  bins_lent : length l.bins ≡ length l.initial.bins;
  order_lent : length l.order ≡ length l.initial.order;
  past_same : PastSame l.self.sample.k l.initial.bins l.initial.order l.bins l.order;
  standing : Standing (stretch_bit l.self.sample.stretch l.self.sample.words.now) (span l.self.sample.stretch) l.self.sample.stretch.block_size (store_in l.self.layered) (take l.self.sample.k l.bits) l.run;
  counted : take (2 ^ l.self.sample.k) l.bins ≡ counts_of (stretch_bit l.self.sample.stretch l.self.sample.words.now) (span l.self.sample.stretch) (take l.self.sample.k l.bits);
}

abbrev pub decreases-pass : goal.decreases-pass
decreases-pass l =
    choose l.self.sample.stretch.block_size l.self.sample.k - rank_of l.self.sample.stretch.block_size (take l.self.sample.k l.bits)
