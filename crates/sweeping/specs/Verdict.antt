-- What a sweep says of a recording.
use Rattle.std.specs.Prelude.{Bool, cond, ℕ}
use Rattle.sweeping.specs.declared.verdict.Verdict.{Verdict}
use Rattle.sweeping.specs.declared.verdict.Verdict.TheVariants.{Rejected, Undecided, NotRejected}

-- rejected where a bracket lies below the share; else undecided where one reaches down below it, else not rejected
abbrev pub verdict_of : Bool → Bool → Verdict
verdict_of rejected below = cond rejected Rejected (cond below Undecided NotRejected)

-- the number of each case; 0, which stands beside a refusal, says that nothing is decided
abbrev pub verdict_number : Verdict → ℕ
verdict_number Undecided = 0
verdict_number Rejected = 1
verdict_number NotRejected = 2
