-- A finding of a search is never refused by the evaluation: it answers what it counts (`finding_evaluated`).
use mathlib.Core.Path.{◌≡◌, refl, ap, subst, ◌∙◌}
use mathlib.Core.Bool.{Bool, true}
use mathlib.Core.List.{List}
use Prim.Native.Nat.{ℕ, zero, suc, ◌^◌, ◌≤◌}
use native.Mathlib.Omega.{arith}
use lib.Ieee.{Float}
use lib.ListN.{length, take}
use borrow.Author.Tests.{eq-eqb, le-leb, lt-ltb}
use Rattle.counting.specs.Block.{valid_size}
use Rattle.counting.specs.Recording.{blocks_in, recorded_bit}
use Rattle.counting.specs.Sample.{counts_of, list_of}
use Rattle.ranking.specs.Order.{order_of, Permuted}
use Rattle.ranking.proofs.Dividing.{score_low, score_high}
use Rattle.ranking.proofs.Sorting.{order_permutes}
use Rattle.subsets.specs.Bits.{valid_width, bits_refusal}
use Rattle.subsets.specs.Subsets.{Subset}
use Rattle.subsets.proofs.Filling.{padded_front}
use Rattle.subsets.proofs.Testing.{not_refused}
use Rattle.searching.specs.declared.finding.Finding.{Finding}
use Rattle.searching.proofs.Filled.{length_counts, length_order}
use Rattle.searching.proofs.Walking.{winner_optimal}
use Rattle.judging.specs.Check.{chosen, length_refusal, shape_refusal, scratch_refusal, division_refusal, order_refusal}
use Rattle.judging.specs.Permutation.{each_once}
use Rattle.judging.specs.Evaluation.{positive_in, z_in, blocks_refusal, early_evaluation_refusal, evaluation_refusal, answer_with, evaluated_of}
use Rattle.judging.specs.declared.evaluation.Score.TheVariants.{Z}
use Rattle.judging.proofs.Checking.{limit_none}
use Rattle.judging.proofs.Once.{once_permutes}
use Rattle.judging.specs.Training.{chosen_of, trained_of, trained_order, FindingEvaluated}

module _ (B : ℕ) (low : Bool) (k : ℕ) (bytes : List ℕ) (ok : valid_size B ≡ true) (some : 1 ≤ k) (width : k ≤ 20) (fits : k ≤ B) where
  abbrev W : List ℕ
  W = chosen_of B low k bytes

  abbrev counts : List ℕ
  counts = counts_of (recorded_bit B low bytes) (blocks_in B bytes) W

  abbrev f : Finding
  f = trained_of B low k bytes

  abbrev order : List ℕ
  order = trained_order B low k bytes

  pub chosen_subset : Subset B k W
  unfolding chosen_of
  chosen_subset = (winner_optimal (recorded_bit B low bytes) (blocks_in B bytes) B k fits).subset

  pub width_is : f.width ≡ k
  unfolding trained_of
  width_is = chosen_subset.size

  pub bits_are : take k f.bits ≡ W
  unfolding trained_of
  bits_are = padded_front k W chosen_subset.size

  chosen_is : chosen f ≡ W
  chosen_is = ap (λ (m : ℕ). take m f.bits) width_is ∙ bits_are

  order_length : length order ≡ 2 ^ f.width
  unfolding trained_order trained_of
  order_length = length_order (recorded_bit B low bytes) (blocks_in B bytes) W

  width_valid : valid_width f.width ≡ true
  unfolding valid_width
  width_valid = rw width_is (simp (le-leb _ _ some, le-leb _ _ width))

  size_valid : valid_size f.block_size ≡ true
  unfolding trained_of
  size_valid = ok

  bits_free : bits_refusal f.block_size (chosen f) ≡ 0
  unfolding trained_of
  bits_free = rw chosen_is (not_refused B k W chosen_subset)

  length_free : length_refusal f.width (length order) ≡ 0
  unfolding length_refusal
  length_free = simp (eq-eqb _ _ order_length)

  shape_free : shape_refusal f (length order) ≡ 0
  unfolding shape_refusal
  shape_free = simp (limit_none f size_valid width_valid, bits_free, length_free)

  once : each_once (2 ^ f.width) order ≡ true
  unfolding trained_order trained_of
  once =
      let all : length counts ≡ 2 ^ length W = length_counts (recorded_bit B low bytes) (blocks_in B bytes) W in
      (once_permutes (2 ^ length W) order order_length).1 (subst (λ (m : ℕ). Permuted (list_of m (λ v. v)) (order_of counts)) all (order_permutes counts))

  division_free : division_refusal f.division (2 ^ f.width) ≡ 0
  unfolding division_refusal trained_of
  division_free =
      let n = blocks_in B bytes in
      let one : 1 ≤ length W = omega (arith, chosen_subset.size) in
      simp (le-leb _ _ (score_low n (length W) counts), lt-ltb _ _ (score_high n (length W) counts one))

  order_free : order_refusal f.width f.division order ≡ 0
  unfolding order_refusal
  order_free = simp (once, division_free)

  module _ (testing : List ℕ) (scratch : ℕ) (least : 1 ≤ blocks_in B testing) (most : blocks_in B testing ≤ 16777216) (room : 2 ^ k ≤ scratch) where
    early_free : early_evaluation_refusal f (length order) (blocks_in B testing) scratch ≡ 0
    unfolding early_evaluation_refusal blocks_refusal scratch_refusal
    early_free = simp (shape_free, le-leb _ _ most, width_is, le-leb _ _ room)

    pub evaluation_free : evaluation_refusal f order testing scratch ≡ 0
    unfolding evaluation_refusal trained_of
    evaluation_free = simp (early_free, order_free)

    answer_is : (n positive : ℕ) (z : Float) → 1 ≤ n → answer_with 0 n positive z ≡ record { refusal = 0; positive = positive; score = Z z }
    answer_is zero positive z h = absurd (omega arith)
    answer_is (suc n) positive z h = refl

    pub evaluated_is : evaluated_of f order testing scratch ≡ record { refusal = 0; positive = positive_in f order testing; score = Z (z_in f order testing) }
    unfolding evaluated_of trained_of
    evaluated_is =
        ap (λ (r : ℕ). answer_with r (blocks_in B testing) (positive_in f order testing) (z_in f order testing)) evaluation_free
        ∙ answer_is (blocks_in B testing) (positive_in f order testing) (z_in f order testing) least

pub finding_evaluated : FindingEvaluated
finding_evaluated B low k bytes testing scratch ok some width fits least most room =
    evaluated_is B low k bytes ok some width fits testing scratch least most room
