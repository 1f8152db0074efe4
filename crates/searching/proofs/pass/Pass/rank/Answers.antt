-- `Pass::rank` meets its contract: the counts stand first in the bin buffer, and add up to n.
use mathlib.Core.Path.{◌≡◌, sym, ap, subst, ◌∙◌}
use Prim.Native.Nat.{ℕ, ◌^◌, ◌≤◌}
use native.Mathlib.Omega.{arith}
use lib.ListN.{length, take}
use Rattle.counting.specs.Sample.{counts_of, total}
use Rattle.counting.specs.Stretch.{span, stretch_bit}
use Rattle.counting.proofs.Counts.{counts_add_up}
use Rattle.counting.proofs.Stretches.{stretch_lt}
use Rattle.ranking.specs.Ranking.{Roots}
use Rattle.searching.proofs.Filled.{counts_first}
use Rattle.searching.proofs.pass.Pass.rank.Goals as goal

pub from_bins-requires : goal.from_bins-requires
from_bins-requires c =
    let sample = c.args.self.now.sample in
    let n = c.span.ensures in
    let bit = stretch_bit sample.stretch sample.words.now in
    let counts : take (2 ^ sample.k) c.fill_bins.new.bins ≡ counts_of bit (span sample.stretch) c.args.bits.now =
    counts_first bit (span sample.stretch) sample.k c.args.bits.now c.args.bins.now _ c.requires.subset.size c.fill_bins.ensures.bins_after in
    let long : 2 ^ sample.k ≤ length c.fill_bins.new.bins = omega (arith, c.requires.buffer_room, c.fill_bins.auto) in
    let ordered : 2 ^ sample.k ≤ length c.fill_bins.new.order = omega (arith, c.requires.buffer_room, c.fill_bins.auto) in (
      sample.searchable.width,
      long,
      ordered,
      ap total counts ∙ counts_add_up (span sample.stretch) bit (stretch_lt sample.stretch sample.words.now) c.args.bits.now ∙ sym n,
      subst (λ (m : ℕ). Roots m sample.k c.args.self.now.roots.now) (sym n) c.args.self.now.rooted,
    )
