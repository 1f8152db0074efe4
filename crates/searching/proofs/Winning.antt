-- What is best in a sample is the winner's finding, and nothing else is (`best_found`).
use mathlib.Core.Path.{◌≡◌, sym, ap, subst, ◌∙◌}
use mathlib.Core.Bool.{Bool, true, false, not}
use mathlib.Core.List.{List}
use mathlib.Core.Logic.{◌⊎◌, inl, inr}
use Prim.Native.Nat.{ℕ, ◌^◌}
use lib.Dec.{T}
use lib.Ieee.{Float, lt}
use lib.ListN.{length, take}
use Rattle.counting.specs.Sample.{counts_of}
use Rattle.ranking.specs.Order.{order_of}
use Rattle.ranking.specs.Ranking.{score_of}
use Rattle.ranking.specs.declared.ranking.Ranking.{Ranking}
use Rattle.subsets.specs.Best.{Beats, Optimal}
use Rattle.subsets.specs.Subsets.{Subset, padded}
use Rattle.searching.specs.Claim.{Best}
use Rattle.searching.specs.Finding.{winner_of, finding_of, z_of}
use Rattle.searching.specs.declared.finding.Finding.{Finding}
use Rattle.searching.proofs.Walking.{scores, z_number, by_z}

not_T : (b : Bool) → (T b → ⊥) → T (not b)
not_T true h = absurd (h tt)
not_T false h = tt

-- the finding, the counts and the order of the winner
pub record Found (low : Bool) (bit : ℕ → ℕ → ℕ) (n B k : ℕ) (f : Finding) (bins order : List ℕ) : Type 0 where
  pub chosen : take k f.bits ≡ winner_of bit n B k
  pub finding : f ≡ finding_of low bit n B (winner_of bit n B k)
  pub counted : take (2 ^ k) bins ≡ counts_of bit n (winner_of bit n B k)
  pub ordered : take (2 ^ k) order ≡ order_of (counts_of bit n (winner_of bit n B k))

module _ (low : Bool) (bit : ℕ → ℕ → ℕ) (n B k : ℕ) (f : Finding) (bins order : List ℕ) (best : Best low bit n B k f bins order) where
  abbrev s : List ℕ
  s = take k f.bits

  abbrev W : List ℕ
  W = winner_of bit n B k

  score_is : score_of n k (take (2 ^ k) bins) ≡ score_of n (length s) (counts_of bit n s)
  score_is = λ i. score_of n (sym best.chosen.size i) (best.counted i)

  z_is : f.z ≡ z_of bit n s
  z_is = best.z ∙ ap (λ (r : Ranking). r.z) score_is

  level : (t : List ℕ) → z_of bit n t ≡ z_of bit n s → T (not (lt (z_of bit n s) (z_of bit n t))) × T (not (lt (z_of bit n t) (z_of bit n s)))
  level t e =
      let a = z_of bit n s in
      let same : T (not (lt a a)) = not_T (lt a a) (λ x. scores.asym a a (z_number bit n s) (z_number bit n s) x x) in
      (subst (λ (x : Float). T (not (lt a x))) (sym e) same, subst (λ (x : Float). T (not (lt x a))) (sym e) same)

  beats_is : (t : List ℕ) → Subset B k t → (t ≡ s) ⊎ Beats lt (z_of bit n) s t
  beats_is t X = elim (best.beats t X) [
    | inl e ↦ inl e
    | inr (inl l) ↦ inr (inl (subst (λ (x : Float). T (lt (z_of bit n t) x)) z_is l))
    | inr (inr (e, l)) ↦ inr (inr ((level t (e ∙ z_is)).0, (level t (e ∙ z_is)).1, l))
  ]

  optimal : Optimal lt (z_of bit n) B k s
  optimal = record { subset = best.chosen; beats = beats_is }

  chosen_is : s ≡ W
  unfolding winner_of
  chosen_is = (by_z bit n B k).unique s optimal

  pub best_found : Found low bit n B k f bins order
  best_found =
      let score : score_of n k (take (2 ^ k) bins) ≡ score_of n (length W) (counts_of bit n W) =
      score_is ∙ ap (λ (t : List ℕ). score_of n (length t) (counts_of bit n t)) chosen_is in
      let width : f.width ≡ length W = best.width ∙ sym best.chosen.size ∙ ap length chosen_is in
      let bits : f.bits ≡ padded W = best.zeros ∙ ap padded chosen_is in
      let division : f.division ≡ (score_of n (length W) (counts_of bit n W)).division = best.division ∙ ap (λ (r : Ranking). r.division) score in
      let z : f.z ≡ (score_of n (length W) (counts_of bit n W)).z = best.z ∙ ap (λ (r : Ranking). r.z) score in
      let counts : take (2 ^ k) bins ≡ counts_of bit n W = best.counted ∙ ap (counts_of bit n) chosen_is in
      record {
        chosen = chosen_is;
        finding = λ i. record { block_size = best.block i; width = width i; bits = bits i; division = division i; z = z i; low_first = best.bit_order i };
        counted = counts;
        ordered = best.ordered ∙ ap order_of counts;
      }
