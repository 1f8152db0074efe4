-- The worked examples, computed.
use mathlib.Core.Path.{refl}
use lib.Ieee.{lt, mul, sub, div, of_int, round, add, neg}
use Rattle.counting.specs.Block.{bin_of, place_in, block_bit}
use Rattle.counting.specs.Recording.{recorded_bit}
use Rattle.counting.specs.Sample.{count_in, list_of, counts_of, total}
use Rattle.scoring.specs.Halves.{part}
use Rattle.scoring.specs.Root.{root, root_at}
use Rattle.scoring.specs.Units.{isqrt, isqrt_from}
use Rattle.scoring.specs.Score.{deviation, z_over, z_score, abs}
use Rattle.ranking.specs.Order.{before, insert_bin, sort_bins, order_of}
use Rattle.ranking.specs.Peak.{peak}
use Rattle.ranking.specs.Ranking.{in_bin_order, size_at, score_of}
use Rattle.layers.proofs.Examples.{store_of_eight}
use Rattle.subsets.proofs.Examples.{ranks_of_eight}
use Rattle.searching.specs.Finding.{winner_of}
use Rattle.searching.specs.Examples.{SearchExamples}

pub search_examples : SearchExamples
unfolding winner_of recorded_bit place_in block_bit bin_of count_in list_of counts_of total part root root_at isqrt isqrt_from deviation z_over z_score abs before insert_bin sort_bins order_of peak in_bin_order size_at score_of lt mul sub div of_int round add neg
search_examples = record {
  always = record { chosen = refl; ordered = refl; ranked = refl };
  ties = record { chosen = refl; ordered = refl; ranked = refl };
  empty = record { chosen = refl; ordered = refl; ranked = refl };
  together = record { chosen = refl; ordered = refl; ranked = refl };
  low = record { chosen = refl; ordered = refl; ranked = refl };
  high = record { chosen = refl; ordered = refl; ranked = refl };
  ranks = ranks_of_eight;
  store = store_of_eight;
}
