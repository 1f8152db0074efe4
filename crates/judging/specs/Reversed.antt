-- A finding with the low bit first judges bytes as the same finding with the high bit first judges them with their bits reversed.
use Rattle.std.specs.Prelude.{◌≡◌, true, false, List, ℕ, length}
use Rattle.counting.specs.Reversed.{reversed_bytes}
use Rattle.searching.specs.Finding.{marked}
use Rattle.searching.specs.declared.finding.Finding.{Finding}
use Rattle.judging.specs.Check.{check_refusal, checked_scratch}
use Rattle.judging.specs.Evaluation.{evaluated_of, evaluated_scratch}

-- Theorem: the check accepts either bit order alike, and an evaluation, refused or not, answers and leaves the same.
pub record JudgesReversed (f : Finding) (order bytes scratch : List ℕ) : Type 0 where
  pub checked : check_refusal (marked true f) order (length scratch) ≡ check_refusal (marked false f) order (length scratch)
  pub cleared : checked_scratch (marked true f) (length order) scratch ≡ checked_scratch (marked false f) (length order) scratch
  pub answered : evaluated_of (marked true f) order bytes (length scratch) ≡ evaluated_of (marked false f) order (reversed_bytes bytes) (length scratch)
  pub counted : evaluated_scratch (marked true f) order bytes scratch ≡ evaluated_scratch (marked false f) order (reversed_bytes bytes) scratch

abbrev pub AllJudgeReversed : Type 0
AllJudgeReversed = (f : Finding) (order bytes scratch : List ℕ) → JudgesReversed f order bytes scratch
