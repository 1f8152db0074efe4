-- The worked examples, computed.
use mathlib.Core.Path.{refl}
use lib.Ieee.{lt, mul, sub, div, of_int, round, add, neg}
use Rattle.counting.specs.Block.{valid_size, bin_of, place_in, block_bit}
use Rattle.counting.specs.Recording.{recorded_bit}
use Rattle.counting.specs.Sample.{count_in, list_of, counts_of, total}
use Rattle.scoring.specs.Halves.{part}
use Rattle.scoring.specs.Root.{root, root_at}
use Rattle.scoring.specs.Units.{isqrt, isqrt_from}
use Rattle.scoring.specs.Score.{deviation, z_over, z_score, abs}
use Rattle.ranking.specs.Order.{before, insert_bin, sort_bins, order_of}
use Rattle.ranking.specs.Peak.{peak}
use Rattle.ranking.specs.Ranking.{in_bin_order, size_at, score_of}
use Rattle.subsets.specs.Bits.{valid_width, increasing, within, bits_refusal}
use Rattle.searching.specs.Finding.{winner_of}
use Rattle.judging.specs.Permutation.{among, each_once}
use Rattle.judging.specs.Check.{limit_refusal, length_refusal, shape_refusal, scratch_refusal, division_refusal, order_refusal, early_check_refusal, check_refusal}
use Rattle.judging.specs.Evaluation.{positive_of, blocks_refusal, early_evaluation_refusal, evaluation_refusal, evaluated_of}
use Rattle.searching.proofs.Examples.{search_examples}
use Rattle.judging.specs.Examples.{EvaluationExample, AllExamples}
use Rattle.judging.proofs.Sweeping.{plans_at_thousand}
use Rattle.judging.proofs.Splitting.{blocks_of_sixteen}

pub evaluation_example : EvaluationExample
unfolding winner_of recorded_bit place_in block_bit bin_of count_in list_of counts_of total part root root_at isqrt isqrt_from deviation z_over z_score abs before insert_bin sort_bins order_of peak in_bin_order size_at score_of lt mul sub div of_int round add neg valid_size valid_width increasing within bits_refusal among each_once limit_refusal length_refusal shape_refusal scratch_refusal division_refusal order_refusal check_refusal early_check_refusal positive_of blocks_refusal early_evaluation_refusal evaluation_refusal evaluated_of
evaluation_example = record { sound = refl; counts = refl; answer = refl }

pub all_examples : AllExamples
all_examples = record { searches = search_examples; evaluated = evaluation_example; parted = blocks_of_sixteen; planned = plans_at_thousand }
