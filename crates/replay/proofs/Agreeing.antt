-- Samples that agree have the same winner, and so the same finding, counts and order.
use mathlib.Core.Path.{◌≡◌, ap, subst, ◌∙◌}
use mathlib.Core.Bool.{Bool, not}
use mathlib.Core.List.{List}
use mathlib.Core.Logic.{◌⊎◌, inl, inr}
use Prim.Native.Nat.{ℕ, ◌≤◌}
use lib.Dec.{T}
use lib.Ieee.{Float, lt}
use lib.ListN.{length}
use Rattle.counting.specs.Sample.{counts_of, AgreeBelow}
use Rattle.ranking.specs.Ranking.{score_of}
use Rattle.subsets.specs.Best.{Beats, Optimal}
use Rattle.subsets.specs.Subsets.{Subset, lex_lt, padded}
use Rattle.searching.specs.Finding.{winner_of, finding_of, z_of}
use Rattle.searching.specs.declared.finding.Finding.{Finding}
use Rattle.searching.proofs.Claiming.{counts_agree, z_agree}
use Rattle.searching.proofs.Walking.{by_z, winner_optimal}

-- `Beats` at two scores
abbrev BeatsAt : Float → Float → List ℕ → List ℕ → Type 0
BeatsAt zr zs r s = T (lt zs zr) ⊎ (T (not (lt zr zs)) × T (not (lt zs zr)) × T (lex_lt r s))

module _ (B n k : ℕ) (bit bit' : ℕ → ℕ → ℕ) (agree : AgreeBelow n B bit bit') (chosen : k ≤ B) where
  beats_agree : (r s : List ℕ) → Subset B k r → Subset B k s → Beats lt (z_of bit n) r s → Beats lt (z_of bit' n) r s
  beats_agree r s R X b =
      subst (λ (x : Float). BeatsAt x (z_of bit' n s) r s) (z_agree B n k bit bit' agree r R) (subst (λ (x : Float). BeatsAt (z_of bit n r) x r s) (z_agree B n k bit bit' agree s X) b)

  W : List ℕ
  W = winner_of bit n B k

  best : Optimal lt (z_of bit n) B k W
  unfolding W
  best = winner_optimal bit n B k chosen

  best' : Optimal lt (z_of bit' n) B k W
  best' = record { subset = best.subset; beats = λ s X. either s X (best.beats s X) }
    where
      either : (s : List ℕ) → Subset B k s → (s ≡ W) ⊎ Beats lt (z_of bit n) W s → (s ≡ W) ⊎ Beats lt (z_of bit' n) W s
      either s X (inl e) = inl e
      either s X (inr b) = inr (beats_agree W s best.subset X b)

  winner_agree : W ≡ winner_of bit' n B k
  unfolding winner_of
  winner_agree = (by_z bit' n B k).unique W best'

  pub winner_counts : counts_of bit n (winner_of bit n B k) ≡ counts_of bit' n (winner_of bit' n B k)
  unfolding W
  winner_counts = counts_agree B n k bit bit' agree W best.subset ∙ ap (counts_of bit' n) winner_agree

  pub winner_finding : (low : Bool) → finding_of low bit n B (winner_of bit n B k) ≡ finding_of low bit' n B (winner_of bit' n B k)
  unfolding W
  winner_finding low =
      let told : List ℕ → Finding =
      λ c. record { block_size = B; width = length W; bits = padded W; division = (score_of n (length W) c).division; z = (score_of n (length W) c).z; low_first = low } in
      ap told (counts_agree B n k bit bit' agree W best.subset) ∙ ap (finding_of low bit' n B) winner_agree
