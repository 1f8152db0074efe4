-- The rankings of the rules' cases 1 to 4, from their counts, computed. Assumes nothing.
use mathlib.Core.Path.{refl}
use lib.Ieee.{lt, mul, div, sub, add, neg, of_int, round}
use Rattle.counting.specs.Sample.{list_of, total}
use Rattle.scoring.specs.Halves.{part}
use Rattle.scoring.specs.Units.{isqrt, isqrt_from}
use Rattle.scoring.specs.Root.{root_at, root}
use Rattle.scoring.specs.Score.{deviation, z_over, z_score, abs}
use Rattle.ranking.specs.Order.{before, insert_bin, sort_bins, order_of}
use Rattle.ranking.specs.Peak.{peak}
use Rattle.ranking.specs.Ranking.{in_bin_order, size_at, score_of}
use Rattle.ranking.specs.Examples.{RankingExamples}

pub ranking_examples : RankingExamples
unfolding before insert_bin sort_bins order_of list_of peak total in_bin_order size_at score_of part isqrt isqrt_from root_at root deviation z_over z_score abs round mul div sub of_int lt add neg
ranking_examples =
    record {
      always = record { ordered = refl; ranked = refl };
      ties = record { ordered = refl; ranked = refl };
      empty = record { ordered = refl; ranked = refl };
      together = record { ordered = refl; ranked = refl };
    }
