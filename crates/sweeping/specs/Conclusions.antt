-- What the verdicts tell: of the exact chances, and of the pair with the lowest L.
use Rattle.std.specs.Prelude.{◌≡◌, Bool, List, ℕ, suc, ◌*◌, ◌^◌, ◌≤◌, ◌<◌, length, get_or}
use Rattle.counting.specs.Recording.{blocks_in}
use Rattle.chance.specs.Chance.{binomial_sum}
use Rattle.judging.specs.Plan.{Plan, plan_of}
use Rattle.sweeping.specs.Pair.{pair_at, tested_of}
use Rattle.sweeping.specs.Sweep.{Swept, share_of, swept_of}
use Rattle.sweeping.specs.declared.pair.Tested.{Tested}
use Rattle.sweeping.specs.declared.refusal.Room.{Room}
use Rattle.sweeping.specs.declared.verdict.Verdict.TheVariants.{Rejected, Undecided, NotRejected}

-- the exact chance of a test's positive blocks or more, times 2 ^ (k × n): n blocks, c of them positive, d of the 2 ^ k bins
abbrev pub chance_of : Tested → ℕ
chance_of t = binomial_sum t.blocks t.positive t.finding.width t.finding.division

-- 2 ^ (k × n), by which that is a chance
abbrev pub whole_of : Tested → ℕ
whole_of t = 2 ^ (t.finding.width * t.blocks)

-- the test of pair i of the plan, which has two blocks or more
pub record TestOf (plan : Plan) (low : Bool) (raw : List ℕ) (i : ℕ) (t : Tested) : Type 0 where
  pub two : 2 ≤ blocks_in (get_or plan.blocks i 0) raw
  pub is : t ≡ tested_of (pair_at plan low i) raw

-- of the tests of the first m pairs the one with the lowest lower end, and of several the earliest
pub record Lowest (plan : Plan) (low : Bool) (raw : List ℕ) (m : ℕ) (t : Tested) : Type 0 where
  pub pair : ℕ
  pub within : pair < m
  pub tested : TestOf plan low raw pair t
  pub lowest : (i : ℕ) (u : Tested) → i < m → TestOf plan low raw i u → t.low ≤ u.low
  pub earliest : (i : ℕ) (u : Tested) → i < pair → TestOf plan low raw i u → t.low < u.low

-- Rejected: the last pair tested is the first whose upper end is below the share, and its exact chance is below a / pairs planned in units of 2 ^ -40.
pub record Rejection (a : ℕ) (plan : Plan) (low : Bool) (raw : List ℕ) (r : Swept) : Type 0 where
  pub pair : ℕ
  pub planned : pair < plan.pairs
  pub stopping : TestOf plan low raw pair r.last
  pub below : r.last.high < share_of a plan
  pub rare : plan.pairs * (2 ^ 40 * chance_of r.last) < a * whole_of r.last
  pub first : (i : ℕ) (u : Tested) → i < pair → TestOf plan low raw i u → share_of a plan ≤ u.high
  pub best : Lowest plan low raw (suc pair) r.best

-- Undecided: every pair that is not skipped was tested, no upper end is below the share, and some lower end is.
pub record Indecision (a : ℕ) (plan : Plan) (low : Bool) (raw : List ℕ) (r : Swept) : Type 0 where
  pub each : (i : ℕ) (u : Tested) → i < plan.pairs → TestOf plan low raw i u → share_of a plan ≤ u.high
  pub pair : ℕ
  pub planned : pair < plan.pairs
  pub reaching : Tested
  pub tested : TestOf plan low raw pair reaching
  pub below : reaching.low < share_of a plan
  pub best : Lowest plan low raw plan.pairs r.best

-- Not rejected: every pair that is not skipped was tested, no lower end is below the share, and no exact chance is.
pub record Passing (a : ℕ) (plan : Plan) (low : Bool) (raw : List ℕ) (r : Swept) : Type 0 where
  pub each : (i : ℕ) (u : Tested) → i < plan.pairs → TestOf plan low raw i u → share_of a plan ≤ u.low
  pub usual : (i : ℕ) (u : Tested) → i < plan.pairs → TestOf plan low raw i u → share_of a plan * whole_of u ≤ 2 ^ 40 * chance_of u
  pub best : Lowest plan low raw plan.pairs r.best

-- What holds of a sweep that is not refused.
pub record Concludes (a : ℕ) (plan : Plan) (low : Bool) (raw : List ℕ) (r : Swept) : Type 0 where
  pub few : r.tested ≤ 7
  pub rejected : r.verdict ≡ Rejected → Rejection a plan low raw r
  pub undecided : r.verdict ≡ Undecided → Indecision a plan low raw r
  pub passed : r.verdict ≡ NotRejected → Passing a plan low raw r

-- Theorem: that holds of every such sweep. So no rejected recording has, for its stopping pair, an exact chance at or above a / pairs planned.
abbrev pub SweepsConclude : Type 0
SweepsConclude =
    (a B : ℕ) (low : Bool) (raw : List ℕ) (room : Room) (r : Swept) → r ≡ swept_of a B low raw room → r.refusal ≡ 0
    → Concludes a (plan_of B (length raw)) low raw r
