use Rattle.std.proofs.Common.{length}
use Rattle.counting.proofs.rows.+add_bins.Given as goal

abbrev pub decreases-add_bins : goal.decreases-add_bins
decreases-add_bins l = length l.bits.now
