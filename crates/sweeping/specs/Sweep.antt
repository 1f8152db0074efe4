-- The sweep of a recording: its answer, from the recording's bytes, and the lent buffers where it is refused.
use Rattle.std.specs.Prelude.{◌≡◌, Bool, cond, List, ℕ, zero, suc, ◌/◌, length, Result, Ok, Err}
use Rattle.counting.specs.Refusal.{number_of}
use Rattle.counting.specs.declared.refusal.Refusal.{Refusal}
use Rattle.judging.specs.Plan.{Plan, plan_of}
use Rattle.sweeping.specs.Progress.{none_tested, progress_to}
use Rattle.sweeping.specs.Refusal.{sweep_refusal}
use Rattle.sweeping.specs.Verdict.{verdict_of}
use Rattle.sweeping.specs.declared.pair.Tested.{Tested}
use Rattle.sweeping.specs.declared.progress.Progress.{Progress}
use Rattle.sweeping.specs.declared.refusal.Room.{Room}
use Rattle.sweeping.specs.declared.sweep.Swept as answered
use Rattle.sweeping.specs.declared.verdict.Verdict.{Verdict}
use Rattle.sweeping.specs.declared.verdict.Verdict.TheVariants.{Undecided}

-- how many entries the lent buffers have
abbrev pub room_of : List ℕ → List ℕ → List ℕ → List ℕ → List ℕ → Room
room_of words bins order scratch entries =
    record { words = length words; bins = length bins; order = length order; scratch = length scratch; entries = length entries }

-- each pair's share of the level a: the pairs planned share it alike, the skipped ones too
abbrev pub share_of : ℕ → Plan → ℕ
share_of a plan = a / plan.pairs

-- an answer of a sweep as numbers and tests: a refusal, 0 where there is none, the verdict, how many pairs were tested, the best test and the last
pub record Swept : Type 0 where
  pub refusal : ℕ
  pub verdict : Verdict
  pub tested : ℕ
  pub best : Tested
  pub last : Tested

-- the answer after the last pair
abbrev pub answer_of : Progress → Swept
answer_of p = record { refusal = 0; verdict = verdict_of p.rejected p.below; tested = p.tested; best = p.best; last = p.last }

-- the answer beside a refusal: every number 0, the verdict's too
abbrev pub refused_sweep : ℕ → Swept
refused_sweep r = record { refusal = r; verdict = Undecided; tested = 0; best = none_tested; last = none_tested }

-- an answer as code gives it
abbrev pub as_swept : Result answered.Swept Refusal → Swept
as_swept (Ok s) = record { refusal = 0; verdict = s.verdict; tested = s.tested; best = s.best; last = s.last }
as_swept (Err r) = refused_sweep (number_of r)

-- the answer with the refusal r
abbrev pub swept_with : ℕ → ℕ → Plan → Bool → List ℕ → Swept
swept_with zero a plan low raw = answer_of (progress_to (share_of a plan) plan low raw plan.pairs)
swept_with (suc r) a plan low raw = refused_sweep (suc r)

-- the sweep of a recording at the level a, in units of 2 ^ -40
unfoldable pub swept_of : ℕ → ℕ → Bool → List ℕ → Room → Swept
swept_of a B low raw room = let plan = plan_of B (length raw) in swept_with (sweep_refusal a plan (length raw) room) a plan low raw

-- the verdict's number with the refusal r: 1 where a pair was rejected; 2 where none was, and no bracket reaches down below the share; else, and beside a refusal, 0
abbrev pub number_with : ℕ → Progress → ℕ
number_with zero p = cond p.rejected 1 (cond p.below 0 2)
number_with (suc r) p = 0

-- the number that the answered verdict stands for
unfoldable pub swept_number : ℕ → ℕ → Bool → List ℕ → Room → ℕ
swept_number a B low raw room =
    let plan = plan_of B (length raw) in
    number_with (sweep_refusal a plan (length raw) room) (progress_to (share_of a plan) plan low raw plan.pairs)

-- a lent buffer, before and after: as lent where the sweep is refused, else free
abbrev pub LentWhereRefused : Swept → List ℕ → List ℕ → Type 0
LentWhereRefused r lent left = (r.refusal ≡ 0 → ⊥) → left ≡ lent
