-- Records as numbers in a lent slice.
use Rattle.std.specs.Prelude.{ℕ, min, Bool, cond, List, [], ◌∷◌, ◌++◌, leb, eqb, length, get_or, take, drop, replicate}
use Rattle.std.specs.Float.{binary64}
use Rattle.std.specs.Float.Ieee.{to_bits}
use Rattle.ranking.specs.Ranking.{zero_score}
use Rattle.subsets.specs.Subsets.{padded}
use Rattle.searching.specs.declared.finding.Finding.{Finding}
use Rattle.judging.specs.Evaluation.{Evaluated}
use Rattle.judging.specs.declared.evaluation.Score.{Score}
use Rattle.judging.specs.declared.evaluation.Score.TheVariants.{Z, NoSample}
use Rattle.judging.specs.Plan.{Plan}
use Rattle.judging.specs.declared.plan.Plan as planned
use Rattle.sweeping.specs.Progress.{none_tested}
use Rattle.sweeping.specs.Verdict.{verdict_number}
use Rattle.sweeping.specs.declared.verdict.Verdict.TheVariants.{Undecided}
use Rattle.sweeping.specs.declared.pair.Tested.{Tested}
use Rattle.sweeping.specs.Sweep.{Swept}
use Rattle.sweeping.specs.declared.sweep.Swept as answered

-- a bit order: 1 where the low bit comes first, 0 where the high bit does
abbrev pub order_number : Bool → ℕ
order_number low = cond low 1 0

-- a finding: its block size, width, division, the bits of its z as a double, its 20 bit entries, its bit order
abbrev pub finding_numbers : Finding → List ℕ
finding_numbers f = f.block_size ∷ f.width ∷ f.division ∷ to_bits binary64 f.z ∷ (f.bits ++ (order_number f.low_first ∷ []))

-- a lent slice after numbers were written to its front: the rest is as lent
abbrev pub written : List ℕ → List ℕ → List ℕ
written numbers lent = numbers ++ drop (length numbers) lent

-- the number, outside the rules', of a lent record that is too short: nothing is then called or written
abbrev pub short_record : ℕ
short_record = 25

-- 27, also outside the rules': the number for a record's bit order is neither 0 nor 1, so that it is no record
abbrev pub bit_order_refusal : ℕ → ℕ
bit_order_refusal n = cond (leb n 1) 0 27

-- a slice that a finding is read from: 25, 27
unfoldable pub finding_unread : List ℕ → ℕ
finding_unread l = cond (leb 25 (length l)) (bit_order_refusal (get_or l 24 0)) short_record

-- .. and a slice of `room` numbers that an evaluation is written to: 25 of either, 27
unfoldable pub evaluation_unread : List ℕ → ℕ → ℕ
evaluation_unread l room = cond (leb 3 room) (finding_unread l) short_record

-- the finding whose numbers stand first, each as it stands. Bit entries past the width are not read and taken as 0; so is z, which judging does not use
abbrev pub finding_read : List ℕ → Finding
finding_read l =
    record {
      block_size = get_or l 0 0;
      width = get_or l 1 0;
      bits = padded (take (min (get_or l 1 0) 20) (drop 4 l));
      division = get_or l 2 0;
      z = zero_score;
      low_first = eqb (get_or l 24 0) 1;
    }

-- a score's case: 1 where it is a number, 0 for "no sample"
abbrev pub score_case : Score → ℕ
score_case (Z z) = 1
score_case NoSample = 0

-- .. and the bits of z as a double, 0 for "no sample"
abbrev pub score_bits : Score → ℕ
score_bits (Z z) = to_bits binary64 z
score_bits NoSample = 0

-- an evaluation: the positive blocks, and its score's two numbers
abbrev pub evaluated_numbers : Evaluated → List ℕ
evaluated_numbers e = e.positive ∷ score_case e.score ∷ score_bits e.score ∷ []

-- a plan: the number of pairs, the seven block sizes, the seven widths
abbrev pub plan_numbers : Plan → List ℕ
plan_numbers p = p.pairs ∷ (p.blocks ++ p.widths)

-- a pair that was tested: its finding's 25 numbers, the testing blocks evaluated, the positive ones, both ends of the chance
abbrev pub tested_numbers : Tested → List ℕ
tested_numbers t = finding_numbers t.finding ++ (t.blocks ∷ t.positive ∷ t.low ∷ t.high ∷ [])

-- a sweep: the verdict's number, how many pairs were tested, the best pair's 29 numbers, the last one's
abbrev pub swept_numbers : Swept → List ℕ
swept_numbers s = verdict_number s.verdict ∷ s.tested ∷ (tested_numbers s.best ++ tested_numbers s.last)

-- beside a refusal of a plan and of a sweep every number is 0
abbrev pub no_plan : planned.Plan
no_plan = record { pairs = 0; sizes = replicate 7 (record { block_size = 0; width = 0 }) }

abbrev pub no_sweep : answered.Swept
no_sweep = record { verdict = Undecided; tested = 0; best = none_tested; last = none_tested }
