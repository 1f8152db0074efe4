-- How a finding does on data: the counts of its bins over the data's whole blocks, how many blocks are positive, and the score.
use Rattle.std.specs.Prelude.{◌≡◌, ℕ, zero, suc, ◌^◌, ◌≤◌, true, cond, List, ◌++◌, map, leb, Float, length, get_or, take, drop, Result, Ok, Err}
use Rattle.std.specs.Float.{nan}
use Rattle.counting.specs.Block.{valid_size}
use Rattle.counting.specs.Recording.{blocks_in, recorded_bit}
use Rattle.counting.specs.Refusal.{number_of}
use Rattle.counting.specs.Sample.{counts_of, total, Below}
use Rattle.counting.specs.declared.refusal.Refusal.{Refusal}
use Rattle.scoring.specs.Halves.{part}
use Rattle.scoring.specs.Score.{z_score}
use Rattle.searching.specs.Refusal.{or_else}
use Rattle.searching.specs.declared.finding.Finding.{Finding}
use Rattle.judging.specs.Check.{chosen, shape_refusal, scratch_refusal, order_refusal, cleared}
use Rattle.judging.specs.declared.evaluation.Evaluated as found
use Rattle.judging.specs.declared.evaluation.Score.{Score}
use Rattle.judging.specs.declared.evaluation.Score.TheVariants.{Z, NoSample}

-- the whole blocks of the data; what is left after the last counts nowhere
abbrev pub testing_blocks : Finding → List ℕ → ℕ
testing_blocks f bytes = blocks_in f.block_size bytes

-- the counts of the finding's bins over these blocks, in its bit order
abbrev pub counts_in : Finding → List ℕ → List ℕ
counts_in f bytes = counts_of (recorded_bit f.block_size f.low_first bytes) (testing_blocks f bytes) (chosen f)

-- the sum of the counts of the first `division` bins of the order
unfoldable pub positive_of : List ℕ → List ℕ → ℕ → ℕ
positive_of counts order division = total (take division (map (λ v. get_or counts v 0) order))

-- positive: the blocks in those bins
abbrev pub positive_in : Finding → List ℕ → List ℕ → ℕ
positive_in f order bytes = positive_of (counts_in f bytes) order f.division

-- z of the positive blocks at the share of division bins, with its sign
abbrev pub z_in : Finding → List ℕ → List ℕ → Float
z_in f order bytes = z_score (testing_blocks f bytes) (positive_in f order bytes) (part f.division f.width)

-- the score of n blocks: z, or "no sample" where there is none
abbrev pub score_for : ℕ → Float → Score
score_for zero z = NoSample
score_for (suc n) z = Z z

-- the number that each case stands for: z itself, and NaN for no sample
abbrev pub score_number : Score → Float
score_number (Z z) = z
score_number NoSample = nan

-- 12: more than 16,777,216 blocks
unfoldable pub blocks_refusal : ℕ → ℕ
blocks_refusal n = cond (leb n 16777216) 0 12

-- those before the scratch is used: 1, 2, 9, 10, 11, 12, 7
unfoldable pub early_evaluation_refusal : Finding → ℕ → ℕ → ℕ → ℕ
early_evaluation_refusal f order n scratch = or_else (shape_refusal f order) (or_else (blocks_refusal n) (scratch_refusal f.width scratch))

-- the evaluation: 1, 2, 9, 10, 11, 12, 7, 13, 14
unfoldable pub evaluation_refusal : Finding → List ℕ → List ℕ → ℕ → ℕ
evaluation_refusal f order bytes scratch =
    or_else (early_evaluation_refusal f (length order) (testing_blocks f bytes) scratch) (order_refusal f.width f.division order)

-- an answer of an evaluation as three values: a refusal, 0 where there is none, how many blocks are positive, and the score
pub record Evaluated : Type 0 where
  pub refusal : ℕ
  pub positive : ℕ
  pub score : Score

-- the three values of an answer: beside a refusal, no block is positive and there is no sample
abbrev pub as_evaluated : Result found.Evaluated Refusal → Evaluated
as_evaluated (Ok e) = record { refusal = 0; positive = e.positive; score = e.score }
as_evaluated (Err r) = record { refusal = number_of r; positive = 0; score = NoSample }

-- the answer with the refusal r: beside one, no block is positive and there is no sample
abbrev pub answer_with : ℕ → ℕ → ℕ → Float → Evaluated
answer_with zero n positive z = record { refusal = 0; positive = positive; score = score_for n z }
answer_with (suc r) n positive z = record { refusal = suc r; positive = 0; score = NoSample }

-- what an evaluation answers
unfoldable pub evaluated_of : Finding → List ℕ → List ℕ → ℕ → Evaluated
evaluated_of f order bytes scratch = answer_with (evaluation_refusal f order bytes scratch) (testing_blocks f bytes) (positive_in f order bytes) (z_in f order bytes)

-- the number beside the refusal r: z, or NaN where nothing was evaluated
abbrev pub number_with : ℕ → Float → Float
number_with zero z = z
number_with (suc r) z = nan

-- the number that the answered score stands for; z of no blocks is NaN too
unfoldable pub evaluated_number : Finding → List ℕ → List ℕ → ℕ → Float
evaluated_number f order bytes scratch = number_with (evaluation_refusal f order bytes scratch) (z_in f order bytes)

-- the scratch where the early refusal is e and the order's is r: as lent beside the first, cleared beside the second, and with neither the counts, past which it is as lent
abbrev pub scratch_after : ℕ → ℕ → List ℕ → ℕ → List ℕ → List ℕ
scratch_after zero zero counts k scratch = counts ++ drop (2 ^ k) scratch
scratch_after zero (suc r) counts k scratch = cleared k scratch
scratch_after (suc e) r counts k scratch = scratch

-- the scratch after an evaluation
unfoldable pub evaluated_scratch : Finding → List ℕ → List ℕ → List ℕ → List ℕ
evaluated_scratch f order bytes scratch =
    scratch_after (early_evaluation_refusal f (length order) (testing_blocks f bytes) (length scratch)) (order_refusal f.width f.division order) (counts_in f bytes) f.width scratch

-- bits and data whose blocks can be counted
pub record CountableData (B : ℕ) (bits bytes : List ℕ) : Type 0 where
  pub valid : valid_size B ≡ true
  pub few : length bits ≤ 20
  pub within : Below B bits
  pub blocks : blocks_in B bytes ≤ 16777216
