-- `rows::multi_eval` meets its contract: the blocks of the chunks passed are counted.
use Prim.Native.Nat.{ℕ, ◌+◌, ◌-◌, ◌*◌, ◌<◌}
use mathlib.Core.Path.{◌≡◌}
use mathlib.Core.List.{List, [], ◌∷◌, ◌++◌}
use lib.ListN.{length, get_or}
use Rattle.counting.specs.Sample.{all_set}
use Rattle.counting.specs.Stretch.{stretch_bit}
use Rattle.counting.proofs.Stretches.{span_before}
use Rattle.counting.proofs.rows.multi_eval.Given as goal

-- entry j counts those of the n blocks that have all the bits and bit next + j set
abbrev pub Extended : (ℕ → ℕ → ℕ) → ℕ → List ℕ → ℕ → List ℕ → Type 0
Extended bit n bits next counts = (j : ℕ) → j < length counts → get_or counts j 0 ≡ all_set bit n (bits ++ ((next + j) ∷ []))

abbrev pub invariant-loop-start : goal.invariant-loop-start
invariant-loop-start l =
    (l.stretch.first < 64 * l.start + 64) × (length l.counts ≡ length l.initial.counts)
    × Extended (stretch_bit l.stretch l.words) (span_before l.stretch l.start) l.bits l.next l.counts

abbrev pub decreases-loop-start : goal.decreases-loop-start
decreases-loop-start l = l.start-end - l.start
