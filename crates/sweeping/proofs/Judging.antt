-- What an evaluation answers can be bracketed (`evaluated_bracketed`).
use mathlib.Core.Path.{◌≡◌, refl, sym, ap, subst, ◌∙◌}
use mathlib.Core.Bool.{true}
use mathlib.Core.List.{List}
use Prim.Native.Nat.{ℕ, suc, ◌^◌, ◌≤◌}
use native.Mathlib.Omega.{arith}
use lib.ListN.{length}
use borrow.Author.Tests.{le-leb, lt-ltb}
use Rattle.std.specs.Prelude.{Result, Ok, Err}
use Rattle.std.specs.Result.{IsOk}
use Rattle.counting.specs.Block.{valid_size}
use Rattle.counting.specs.Recording.{recorded_bit}
use Rattle.counting.specs.declared.refusal.Refusal.{Refusal}
use Rattle.counting.proofs.Counts.{counts_add_up}
use Rattle.counting.proofs.Reasons.{some_number}
use Rattle.subsets.proofs.Refusing.{valid_width_is}
use Rattle.chance.specs.Bracket.{bracket_refusal}
use Rattle.searching.specs.declared.finding.Finding.{Finding}
use Rattle.searching.proofs.Filled.{length_counts}
use Rattle.searching.proofs.Refusing.{neither}
use Rattle.judging.specs.Check.{chosen, order_refusal}
use Rattle.judging.specs.Permutation.{Permutation}
use Rattle.judging.specs.Evaluation.{testing_blocks, counts_in, positive_in, z_in, early_evaluation_refusal, evaluation_refusal, Evaluated, as_evaluated, answer_with, evaluated_of}
use Rattle.judging.specs.declared.evaluation.Evaluated as found
use Rattle.judging.proofs.Checking.{Ordered, ordered, chosen_length}
use Rattle.judging.proofs.Evaluating.{Early, early, recorded_small}
use Rattle.judging.proofs.Once.{once_permutes}
use Rattle.judging.proofs.Tallying.{positive_most}
use Rattle.sweeping.specs.Pair.{EvaluatedBracketed}

module _ (f : Finding) (order testing : List ℕ) (scratch : ℕ) (long : length f.bits ≡ 20) (free : evaluation_refusal f order testing scratch ≡ 0) where
  abbrev n : ℕ
  n = testing_blocks f testing

  both : (early_evaluation_refusal f (length order) n scratch ≡ 0) × (order_refusal f.width f.division order ≡ 0)
  unfolding evaluation_refusal
  both = neither (early_evaluation_refusal f (length order) n scratch) _ free

  sound : Early f (length order) n scratch
  sound = early f (length order) n scratch both.0

  divides : Ordered f.width f.division order
  divides = ordered f.width f.division order both.1

  -- the bins of the chosen bits are those of the order
  bins_are : length (counts_in f testing) ≡ 2 ^ f.width
  bins_are =
      length_counts (recorded_bit f.block_size f.low_first testing) n (chosen f)
      ∙ ap (λ (w : ℕ). 2 ^ w) (chosen_length f sound.shape.limits.width long)

  -- no more blocks are positive than there are
  pub positive_within : positive_in f order testing ≤ n
  positive_within =
      let permuted : Permutation (2 ^ f.width) order = (once_permutes (2 ^ f.width) order sound.shape.sized).0 divides.once in
      let all = positive_most (counts_in f testing) order f.division (subst (λ (m : ℕ). Permutation m order) (sym bins_are) permuted) in
      omega (arith, all, counts_add_up n (recorded_bit f.block_size f.low_first testing) (recorded_small f.block_size f.low_first testing) (chosen f))

  pub bracket_free : (entries : ℕ) → n ≤ 4096 → suc n ≤ entries → bracket_refusal n (positive_in f order testing) f.width f.division entries ≡ 0
  unfolding bracket_refusal
  bracket_free entries few room =
      let l = sound.shape.limits in
      simp (
        le-leb n 4096 few,
        le-leb (positive_in f order testing) n positive_within,
        valid_width_is f.width l.some l.width,
        le-leb 1 f.division divides.some,
        lt-ltb f.division (2 ^ f.width) divides.below,
        le-leb (suc n) entries room,
      )

pub evaluated_bracketed : EvaluatedBracketed
evaluated_bracketed f order testing scratch entries long free few room =
    record { taken = free; bracketed = bracket_free f order testing scratch long free entries few room }

-- ---- an evaluation that is not refused

pub evaluated_valid : (f : Finding) (order testing : List ℕ) (scratch : ℕ) → evaluation_refusal f order testing scratch ≡ 0 → valid_size f.block_size ≡ true
unfolding evaluation_refusal
evaluated_valid f order testing scratch free =
    let e = neither (early_evaluation_refusal f (length order) (testing_blocks f testing) scratch) _ free in
    (early f (length order) (testing_blocks f testing) scratch e.0).shape.limits.valid

pub evaluated_positive : (f : Finding) (order testing : List ℕ) (scratch : ℕ) → evaluation_refusal f order testing scratch ≡ 0
    → (evaluated_of f order testing scratch).positive ≡ positive_in f order testing
unfolding evaluated_of
evaluated_positive f order testing scratch free =
    ap (λ (r : ℕ). (answer_with r (testing_blocks f testing) (positive_in f order testing) (z_in f order testing)).positive) free

pub evaluated_well : (f : Finding) (order testing : List ℕ) (scratch : ℕ) (x : Result found.Evaluated Refusal) → as_evaluated x ≡ evaluated_of f order testing scratch → evaluation_refusal f order testing scratch ≡ 0 → IsOk x
unfolding evaluated_of
evaluated_well f order testing scratch (Ok e) is free = refl
evaluated_well f order testing scratch (Err r) is free =
    absurd (some_number r (ap (λ (e : Evaluated). e.refusal) is ∙ ap (λ (r : ℕ). (answer_with r (testing_blocks f testing) (positive_in f order testing) (z_in f order testing)).refusal) free))
