-- The progress of a sweep from pair to pair.
use Rattle.std.specs.Prelude.{Bool, false, cond, ◌||◌, List, ℕ, zero, suc, leb, ltb, eqb}
use Rattle.counting.specs.Recording.{blocks_in}
use Rattle.searching.specs.Finding.{no_finding}
use Rattle.judging.specs.Plan.{Plan}
use Rattle.sweeping.specs.Pair.{pair_at, tested_of}
use Rattle.sweeping.specs.declared.pair.Pair.{Pair}
use Rattle.sweeping.specs.declared.pair.Tested.{Tested}
use Rattle.sweeping.specs.declared.progress.Progress.{Progress}

-- no pair: every field 0
abbrev pub none_tested : Tested
none_tested = record { finding = no_finding; blocks = 0; positive = 0; low = 0; high = 0 }

-- before the first pair
abbrev pub begun : Progress
begun = record { tested = 0; rejected = false; below = false; best = none_tested; last = none_tested }

-- of the best so far and one pair more, that with the lower L, the earlier on equality
unfoldable pub lowest_of : Progress → Tested → Tested
lowest_of p t = cond (eqb p.tested 0) t (cond (ltb t.low p.best.low) t p.best)

-- one pair more: rejected where its upper end is below the share; whether a bracket reaches down below it is remembered
unfoldable pub counted : ℕ → Progress → Tested → Progress
counted share p t =
    record { tested = suc p.tested; rejected = ltb t.high share; below = p.below || ltb t.low share; best = lowest_of p t; last = t }

-- a pair of the plan: a rejection stops, and a pair with fewer than two blocks is skipped
unfoldable pub next_progress : ℕ → List ℕ → Pair → Progress → Progress
next_progress share raw pair p =
    cond p.rejected p (cond (leb 2 (blocks_in pair.block_size raw)) (counted share p (tested_of pair raw)) p)

-- after the first i pairs
unfoldable pub progress_to : ℕ → Plan → Bool → List ℕ → ℕ → Progress
progress_to share plan low raw zero = begun
progress_to share plan low raw (suc i) = next_progress share raw (pair_at plan low i) (progress_to share plan low raw i)
