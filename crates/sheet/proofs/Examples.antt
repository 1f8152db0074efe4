-- The worked examples, computed.
use mathlib.Core.Path.{refl}
use lib.Ieee.{lt, mul, sub, div, of_int, round, add, neg, to_bits}
use Rattle.counting.specs.Block.{valid_size, bin_of, place_in, block_bit}
use Rattle.counting.specs.Recording.{recorded_bit}
use Rattle.counting.specs.Sample.{count_in, list_of, counts_of, total}
use Rattle.scoring.specs.Halves.{part}
use Rattle.scoring.specs.Root.{root, root_at}
use Rattle.scoring.specs.Units.{isqrt, isqrt_from}
use Rattle.scoring.specs.Score.{deviation, z_over, z_score, abs}
use Rattle.ranking.specs.Order.{before, insert_bin, sort_bins, order_of}
use Rattle.ranking.specs.Peak.{peak}
use Rattle.ranking.specs.Ranking.{in_bin_order, size_at, score_of}
use Rattle.subsets.specs.Bits.{valid_width}
use Rattle.searching.specs.Finding.{winner_of}
use Rattle.judging.specs.Split.{split_refusal, first_blocks, first_part, second_part}
use Rattle.judging.specs.Evaluation.{positive_of}
use Rattle.judging.specs.Training.{chosen_of, trained_of, trained_order}
use Rattle.sheet.specs.Columns.{symbol_at, columns, fields, line}
use Rattle.sheet.specs.Header.{digit_of, read_to, match_to, well_formed, input_refusal}
use Rattle.sheet.specs.Lines.{three_lines}
use Rattle.sheet.specs.Judgement.{judged_of, lines_of}
use Rattle.sheet.specs.Refusal.{sheet_refusal}
use Rattle.sheet.specs.Sheet.{sheet_of}
use Rattle.sheet.specs.Examples.{SheetExamples}

pub sheet_examples : SheetExamples
unfolding sheet_of sheet_refusal lines_of judged_of chosen_of trained_of trained_order three_lines digit_of read_to match_to well_formed input_refusal symbol_at columns fields line positive_of split_refusal first_blocks first_part second_part winner_of valid_width valid_size recorded_bit place_in block_bit bin_of count_in list_of counts_of total part root root_at isqrt isqrt_from deviation z_over z_score abs before insert_bin sort_bins order_of peak in_bin_order size_at score_of lt mul sub div of_int round add neg to_bits
sheet_examples = record { eight = refl; narrow = refl; one = refl; none = refl }
