-- The progress from pair to pair.
use mathlib.Core.Path.{◌≡◌, refl, sym, ap, ap₂}
use mathlib.Core.Bool.{Bool, true, false, cond}
use mathlib.Core.List.{List}
use Prim.Native.Nat.{ℕ, zero, suc, ◌≤◌}
use native.Mathlib.Omega.{arith}
use lib.Dec.{leb}
use Rattle.counting.specs.Recording.{blocks_in}
use Rattle.judging.specs.Plan.{Plan}
use Rattle.sweeping.specs.Pair.{pair_at, tested_of}
use Rattle.sweeping.specs.Progress.{begun, counted, next_progress, progress_to}
use Rattle.sweeping.specs.declared.pair.Pair.{Pair}
use Rattle.sweeping.specs.declared.progress.Progress.{Progress}

-- ---- one pair

module _ (share : ℕ) (raw : List ℕ) (pair : Pair) (p : Progress) where
  abbrev two : Bool
  two = leb 2 (blocks_in pair.block_size raw)

  -- a rejection, two blocks or not: what becomes of the progress
  abbrev next : Bool → Bool → Progress
  next rejected enough = cond rejected p (cond enough (counted share p (tested_of pair raw)) p)

  pub stopped : p.rejected ≡ true → p ≡ next_progress share raw pair p
  unfolding next_progress
  stopped e = ap (λ (b : Bool). next b two) (sym e)

  pub skips : p.rejected ≡ false → two ≡ false → p ≡ next_progress share raw pair p
  unfolding next_progress
  skips e f = ap₂ next (sym e) (sym f)

  pub tests : p.rejected ≡ false → two ≡ true → counted share p (tested_of pair raw) ≡ next_progress share raw pair p
  unfolding next_progress
  tests e f = ap₂ next (sym e) (sym f)

-- ---- all pairs

module _ (share : ℕ) (plan : Plan) (low : Bool) (raw : List ℕ) where
  pub before_first : begun ≡ progress_to share plan low raw 0
  unfolding progress_to
  before_first = refl

  pub one_more : (i : ℕ) (p : Progress) → p ≡ progress_to share plan low raw i → next_progress share raw (pair_at plan low i) p ≡ progress_to share plan low raw (suc i)
  unfolding progress_to
  one_more i p e = ap (next_progress share raw (pair_at plan low i)) e

  -- no more pairs are tested than gone through
  tested_more : (pair : Pair) (p : Progress) → (next_progress share raw pair p).tested ≤ suc p.tested
  unfolding next_progress counted
  tested_more pair p = by_tests p.rejected (leb 2 (blocks_in pair.block_size raw))
    where
      by_tests : (a b : Bool) → (cond a p (cond b (counted share p (tested_of pair raw)) p)).tested ≤ suc p.tested
      by_tests true b = omega arith
      by_tests false true = omega arith
      by_tests false false = omega arith

  pub tested_few : (i : ℕ) → (progress_to share plan low raw i).tested ≤ i
  unfolding progress_to
  tested_few zero = omega arith
  tested_few (suc i) = omega (arith, tested_more (pair_at plan low i) (progress_to share plan low raw i), tested_few i)
