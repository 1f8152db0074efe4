-- Both bit orders are checked alike, and evaluated alike on reversed bytes (theorem `all_judge_reversed`).
use mathlib.Core.Path.{◌≡◌, refl, sym, ap}
use mathlib.Core.Bool.{true, false}
use mathlib.Core.List.{List}
use Prim.Native.Nat.{ℕ, ◌/◌}
use lib.ListN.{length, length-map}
use Rattle.counting.specs.Recording.{blocks_in, block_bytes}
use Rattle.counting.specs.Reversed.{reversed, reversed_bytes}
use Rattle.counting.specs.Sample.{counts_of}
use Rattle.counting.proofs.Reversing.{reversal}
use Rattle.scoring.specs.Halves.{part}
use Rattle.scoring.specs.Score.{z_score}
use Rattle.searching.specs.Finding.{marked}
use Rattle.searching.specs.Refusal.{or_else}
use Rattle.searching.specs.declared.finding.Finding.{Finding}
use Rattle.judging.specs.Check.{chosen, limit_refusal, shape_refusal, order_refusal, early_check_refusal, check_refusal, checked_scratch}
use Rattle.judging.specs.Evaluation.{counts_in, positive_of, early_evaluation_refusal, evaluation_refusal, answer_with, evaluated_of, scratch_after, evaluated_scratch}
use Rattle.judging.specs.Reversed.{AllJudgeReversed}

module _ (f : Finding) (bytes : List ℕ) where
  -- as many blocks
  blocks_same : blocks_in f.block_size bytes ≡ blocks_in f.block_size (reversed_bytes bytes)
  blocks_same = ap (λ (n : ℕ). n / block_bytes f.block_size) (sym (length-map bytes reversed))

  -- .. with the same bits, so the same counts
  counts_same : counts_in (marked true f) bytes ≡ counts_in (marked false f) (reversed_bytes bytes)
  counts_same = λ i. counts_of (λ e b. reversal.recorded f.block_size bytes e b i) (blocks_same i) (chosen f)

pub all_judge_reversed : AllJudgeReversed
unfolding limit_refusal shape_refusal early_check_refusal check_refusal checked_scratch early_evaluation_refusal evaluation_refusal evaluated_of evaluated_scratch
all_judge_reversed f order bytes scratch =
    let n = blocks_same f bytes in
    let c = counts_same f bytes in
    record {
      checked = refl;
      cleared = refl;
      answered = λ i.
          answer_with (or_else (early_evaluation_refusal f (length order) (n i) (length scratch)) (order_refusal f.width f.division order)) (n i)
          (positive_of (c i) order f.division) (z_score (n i) (positive_of (c i) order f.division) (part f.division f.width));
      counted = λ i.
          scratch_after (early_evaluation_refusal f (length order) (n i) (length scratch)) (order_refusal f.width f.division order) (c i) f.width scratch;
    }
