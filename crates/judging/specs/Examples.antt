-- The worked examples: a finding evaluated on other data, and all of them together.
use Rattle.std.specs.Prelude.{◌≡◌, false, List, [], ◌∷◌, ℕ}
use Rattle.counting.specs.Recording.{blocks_in, recorded_bit}
use Rattle.scoring.specs.Halves.{one}
use Rattle.searching.specs.Examples.{SearchExamples}
use Rattle.searching.specs.Finding.{finding_of, winner_of}
use Rattle.searching.specs.declared.finding.Finding.{Finding}
use Rattle.judging.specs.Check.{check_refusal}
use Rattle.judging.specs.Evaluation.{counts_in, evaluated_of}
use Rattle.judging.specs.Plan.{PlansAtThousand}
use Rattle.judging.specs.Split.{BlocksOfSixteen}
use Rattle.judging.specs.declared.evaluation.Score.TheVariants.{Z}

-- the bytes that are searched
abbrev pub searched_bytes : List ℕ
searched_bytes = 0 ∷ 0 ∷ 0xff ∷ 0xff ∷ []

-- what a search of width 2 finds in 00 00 FF FF
abbrev pub together : Finding
together = finding_of false (recorded_bit 8 false searched_bytes) (blocks_in 8 searched_bytes) 8 (winner_of (recorded_bit 8 false searched_bytes) (blocks_in 8 searched_bytes) 8 2)

-- its bin order there
abbrev pub its_order : List ℕ
its_order = 0 ∷ 3 ∷ 1 ∷ 2 ∷ []

-- the bytes that it is evaluated on
abbrev pub others : List ℕ
others = 0 ∷ 0x80 ∷ 0xff ∷ 0xff ∷ []

-- Theorem: the finding on 00 80 FF FF, with a scratch of 4 entries.
pub record EvaluationExample : Type 0 where
  pub sound : check_refusal together its_order 4 ≡ 0
  pub counts : counts_in together others ≡ 1 ∷ 1 ∷ 0 ∷ 2 ∷ []
  pub answer : evaluated_of together its_order others 4 ≡ record { refusal = 0; positive = 3; score = Z one }

-- Theorem: all worked examples. The first, second, third, fourth, sixth and eighth of the rules are those of the search, the fifth is the evaluation, the
-- seventh the split and the ninth the plan.
pub record AllExamples : Type 0 where
  pub searches : SearchExamples
  pub evaluated : EvaluationExample
  pub parted : BlocksOfSixteen
  pub planned : PlansAtThousand
