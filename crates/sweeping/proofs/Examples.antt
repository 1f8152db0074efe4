-- The worked examples, computed.
use mathlib.Core.Path.{refl}
use Rattle.counting.specs.Block.{valid_size}
use Rattle.searching.specs.Refusal.{buffer_refusal}
use Rattle.judging.specs.Check.{scratch_refusal}
use Rattle.judging.specs.Plan.{width_for, sizes_from, sizes_of, widths_of, plan_of}
use Rattle.judging.specs.Split.{first_blocks}
use Rattle.sweeping.specs.Pair.{tested_blocks}
use Rattle.sweeping.specs.Refusal.{level_refusal, training_refusal, room_refusal, pair_refusal, pairs_refusal, unskipped, skipped_refusal, sweep_refusal}
use Rattle.sweeping.specs.Sweep.{swept_of}
use Rattle.sweeping.specs.Examples.{SweepExamples}

pub sweep_examples : SweepExamples
unfolding valid_size buffer_refusal scratch_refusal width_for sizes_from sizes_of widths_of plan_of first_blocks tested_blocks level_refusal training_refusal room_refusal pair_refusal pairs_refusal unskipped skipped_refusal sweep_refusal swept_of
sweep_examples = record {
  no_level = refl;
  certain = refl;
  no_plan = refl;
  empty = refl;
  first_words = refl;
  first_bins = refl;
  first_entries = refl;
  second_words = refl;
  taken = refl;
  answer = refl;
}
