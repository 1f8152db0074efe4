-- What an answer tells: that it is a refusal or none, and what stands beside a refusal.
use mathlib.Core.Path.{◌≡◌, refl, sym}
use mathlib.Core.Bool.{Bool, true, false, cond, true≢false}
use Prim.Native.Nat.{ℕ}
use native.Mathlib.Omega.{arith}
use lib.Dec.{leb}
use Rattle.std.specs.Prelude.{Result, Ok, Err}
use Rattle.std.specs.Result.{is_err, result_unwrap_or}
use Rattle.counting.specs.Refusal.{number_of, refusal_of}
use Rattle.counting.specs.declared.refusal.Refusal.{Refusal}
use Rattle.counting.proofs.Accepted.{passed}
use Rattle.counting.proofs.Reasons.{some_number}
use Rattle.chance.specs.Bracket.{bracketed_of}
use Rattle.chance.specs.declared.bracket.Ends.{Ends}
use Rattle.sampling.specs.Sampler.{no_sampler, as_started}
use Rattle.sampling.specs.Carrying.{as_carried}
use Rattle.sampling.specs.Feeding.{as_taken}
use Rattle.sampling.specs.declared.feeding.Taken as taken
use Rattle.sampling.specs.declared.sampler.Sampler.{Sampler}
use Rattle.subsets.specs.Rank.{as_ranked}
use Rattle.searching.specs.Finding.{no_finding, searched_of}
use Rattle.searching.specs.declared.finding.Finding.{Finding}
use Rattle.judging.specs.Evaluation.{as_evaluated}
use Rattle.judging.specs.declared.evaluation.Evaluated as found
use Rattle.judging.specs.declared.evaluation.Score.TheVariants.{NoSample}
use Rattle.judging.specs.Plan.{as_plan}
use Rattle.judging.specs.declared.plan.Plan as planned
use Rattle.sweeping.specs.Sweep.{as_swept}
use Rattle.sweeping.specs.declared.sweep.Swept as answered
use Rattle.exchange.specs.Exchange.{as_written, as_reading}
use Rattle.exports.specs.Records.{evaluated_numbers, plan_numbers, swept_numbers, no_plan, no_sweep}
use Rattle.exports.specs.Samplers.{sampler_room}

-- a record's room is there, or it is short
pub is_enough : (needed given : ℕ) → ◌≡◌ {A = ℕ} 0 (cond (leb needed given) 0 25) → leb needed given ≡ true
is_enough needed given e = (passed (leb needed given) 0 25 (omega arith) (sym e)).0

pub is_short : (r : Refusal) (needed given : ℕ) → number_of r ≡ cond (leb needed given) 0 25 → (leb needed given ≡ false) × (number_of r ≡ 25)
is_short r needed given e = go (leb needed given) e
  where
    go : (b : Bool) → number_of r ≡ cond b 0 25 → (b ≡ false) × (number_of r ≡ 25)
    go true e = absurd (some_number r e)
    go false e = (refl, e)

-- .. and so is a sampler's, which is refused by that alone
pub room_short : (r : Refusal) (numbers bytes : ℕ) → number_of r ≡ sampler_room numbers bytes → number_of r ≡ 25
unfolding sampler_room
room_short r numbers bytes e = go (leb 8 numbers) (leb 2048 bytes) e
  where
    go : (a b : Bool) → number_of r ≡ cond a (cond b 0 25) 25 → number_of r ≡ 25
    go true true e = absurd (some_number r e)
    go true false e = e
    go false b e = e

-- an answer by the test that it is a refusal
pub failed : {A : Type 0} (a : Result A Refusal) → is_err a ≡ true → refusal_of a ≡ 0 → ⊥
failed (Ok x) e z = absurd (true≢false (sym e))
failed (Err r) e z = some_number r z

pub succeeded : {A : Type 0} (a : Result A Refusal) → is_err a ≡ false → refusal_of a ≡ 0
succeeded (Ok x) e = refl
succeeded (Err r) e = absurd (true≢false e)

pub short_room : {A : Type 0} (a : Result A Refusal) (numbers bytes : ℕ) → is_err a ≡ true → refusal_of a ≡ sampler_room numbers bytes → refusal_of a ≡ 25
short_room (Ok x) numbers bytes t e = absurd (true≢false (sym t))
short_room (Err r) numbers bytes t e = room_short r numbers bytes e

-- ---- an answer as a number and a value

pub started_is : (a : Result Sampler Refusal) → (refusal_of a ≡ (as_started a).refusal) × (result_unwrap_or a no_sampler ≡ (as_started a).sampler)
started_is (Ok s) = (refl, refl)
started_is (Err r) = (refl, refl)

pub carried_is : (a : Result Sampler Refusal) → (refusal_of a ≡ (as_carried a).refusal) × (result_unwrap_or a no_sampler ≡ (as_carried a).sampler)
carried_is (Ok s) = (refl, refl)
carried_is (Err r) = (refl, refl)

pub taken_is : (a : Result taken.Taken Refusal) → refusal_of a ≡ (as_taken a).refusal
taken_is (Ok t) = refl
taken_is (Err r) = refl

pub searched_is : (a : Result Finding Refusal) → (refusal_of a ≡ (searched_of a).refusal) × (result_unwrap_or a no_finding ≡ (searched_of a).finding)
searched_is (Ok f) = (refl, refl)
searched_is (Err r) = (refl, refl)

pub ranked_is : (a : Result ℕ Refusal) → (refusal_of a ≡ (as_ranked a).refusal) × (result_unwrap_or a 0 ≡ (as_ranked a).rank)
ranked_is (Ok n) = (refl, refl)
ranked_is (Err r) = (refl, refl)

pub evaluated_is : (a : Result found.Evaluated Refusal)
    → (refusal_of a ≡ (as_evaluated a).refusal)
    × (evaluated_numbers (as_evaluated (Ok (result_unwrap_or a (record { positive = 0; score = NoSample })))) ≡ evaluated_numbers (as_evaluated a))
evaluated_is (Ok e) = (refl, refl)
evaluated_is (Err r) = (refl, refl)

pub written_is : (a : Result ℕ Refusal) → (refusal_of a ≡ (as_written a).refusal) × (result_unwrap_or a 0 ≡ (as_written a).length)
written_is (Ok n) = (refl, refl)
written_is (Err r) = (refl, refl)

pub reading_is : (a : Result Finding Refusal) → (refusal_of a ≡ (as_reading a).refusal) × (result_unwrap_or a no_finding ≡ (as_reading a).finding)
reading_is (Ok f) = (refl, refl)
reading_is (Err r) = (refl, refl)

pub plan_is : (a : Result planned.Plan Refusal)
    → (refusal_of a ≡ (as_plan a).refusal) × (plan_numbers (as_plan (Ok (result_unwrap_or a no_plan))) ≡ plan_numbers (as_plan a))
plan_is (Ok p) = (refl, refl)
plan_is (Err r) = (refl, refl)

pub bracketed_is : (a : Result Ends Refusal)
    → (refusal_of a ≡ (bracketed_of a).refusal)
    × ((result_unwrap_or a (record { low = 0; high = 0 })).low ≡ (bracketed_of a).low)
    × ((result_unwrap_or a (record { low = 0; high = 0 })).high ≡ (bracketed_of a).high)
bracketed_is (Ok e) = (refl, refl, refl)
bracketed_is (Err r) = (refl, refl, refl)

pub swept_is : (a : Result answered.Swept Refusal)
    → (refusal_of a ≡ (as_swept a).refusal) × (swept_numbers (as_swept (Ok (result_unwrap_or a no_sweep))) ≡ swept_numbers (as_swept a))
swept_is (Ok s) = (refl, refl)
swept_is (Err r) = (refl, refl)
