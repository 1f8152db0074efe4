-- The refusals of an evaluation: what none of the early ones tells, and what is promised where there is one and where there is none.
use mathlib.Core.Path.{◌≡◌, refl, sym, ap, ◌∙◌}
use mathlib.Core.Bool.{Bool}
use mathlib.Core.List.{List, [], ◌∷◌, ◌++◌, map}
use Prim.Native.Nat.{ℕ, zero, suc, ◌*◌, ◌/◌, ◌%◌, ◌^◌, ◌≤◌}
use native.Mathlib.Omega.{arith}
use lib.Dec.{leb}
use lib.Ieee.{Float, nan}
use lib.ListN.{length, get_or, replicate, take, drop, length-replicate}
use borrow.Author.Tests.{leb-true}
use Rattle.std.specs.Prelude.{Result, Err}
use Rattle.counting.specs.Block.{place_in, block_bit}
use Rattle.counting.specs.Recording.{recorded_bit}
use Rattle.counting.specs.Refusal.{number_of}
use Rattle.counting.specs.declared.refusal.Refusal.{Refusal}
use Rattle.counting.specs.Sample.{counts_of, total, Bits}
use Rattle.counting.proofs.Reasons.{some_number}
use Rattle.counting.proofs.Lanes.{bit_lt}
use Rattle.scoring.specs.Halves.{part}
use Rattle.scoring.specs.Score.{z_score}
use Rattle.scoring.proofs.Defined.{empty_is_nan}
use Rattle.searching.proofs.Filled.{replaced_first, replaced_rest}
use Rattle.counting.proofs.Accepted.{passed}
use Rattle.searching.proofs.Refusing.{neither}
use Rattle.subsets.proofs.Listing.{bits_below}
use Rattle.searching.specs.declared.finding.Finding.{Finding}
use Rattle.judging.specs.Check.{chosen, shape_refusal, cleared}
use Rattle.judging.specs.Evaluation.{testing_blocks, positive_of, positive_in, z_in, score_for, score_number, blocks_refusal, early_evaluation_refusal, evaluation_refusal, Evaluated, as_evaluated, answer_with, evaluated_of, number_with, evaluated_number, scratch_after, CountableData}
use Rattle.judging.specs.declared.evaluation.Evaluated as found
use Rattle.judging.specs.declared.evaluation.Score.TheVariants.{NoSample}
use Rattle.judging.proofs.Tallying.{counts_none}
use Rattle.judging.proofs.Checking.{Shaped, shaped, subset_of, chosen_length, room}

-- every bit of a recording is 0 or 1
pub recorded_small : (B : ℕ) (low : Bool) (bytes : List ℕ) → Bits (recorded_bit B low bytes)
unfolding recorded_bit block_bit
recorded_small B low bytes e b = bit_lt (get_or (take (B / 8) (drop (e * (B / 8)) bytes)) (b / 8) 0) (place_in low (b % 8))

-- ---- no early refusal

pub record Early (f : Finding) (order n scratch : ℕ) : Type 0 where
  pub shape : Shaped f order
  pub blocks : n ≤ 16777216
  pub space : 2 ^ f.width ≤ scratch

pub early : (f : Finding) (order n scratch : ℕ) → early_evaluation_refusal f order n scratch ≡ 0 → Early f order n scratch
unfolding early_evaluation_refusal blocks_refusal
early f order n scratch e =
    let p = neither (shape_refusal f order) _ e in
    let q = neither (blocks_refusal n) _ p.1 in
    let r = passed (leb n 16777216) 0 12 (omega arith) q.0 in
    record { shape = shaped f order p.0; blocks = leb-true n 16777216 r.0; space = room f.width scratch q.1 }

pub countable : (f : Finding) (order scratch : ℕ) (bytes : List ℕ) → Early f order (testing_blocks f bytes) scratch → length f.bits ≡ 20 → CountableData f.block_size (chosen f) bytes
countable f order scratch bytes e size =
    let s = e.shape in
    let w = chosen_length f s.limits.width size in
    record {
      valid = s.limits.valid;
      few = omega (arith, w, s.limits.width);
      within = bits_below f.block_size f.width (chosen f) (subset_of f order s size);
      blocks = e.blocks;
    }

-- ---- the answer

pub answer_refused : (a : Result found.Evaluated Refusal) (e : Refusal) (r n positive : ℕ) (z : Float) → a ≡ Err e → number_of e ≡ r → as_evaluated a ≡ answer_with r n positive z
answer_refused a e r n positive z h is = ap as_evaluated h ∙ go r is
  where
    go : (r : ℕ) → number_of e ≡ r → as_evaluated (Err e) ≡ answer_with r n positive z
    go zero is = absurd (some_number e is)
    go (suc r) is = ap (λ (x : ℕ). record { refusal = x; positive = 0; score = NoSample }) is

pub answer_found : (r n positive : ℕ) (z : Float) → r ≡ 0 → ◌≡◌ {A = Evaluated} (record { refusal = 0; positive = positive; score = score_for n z }) (answer_with r n positive z)
answer_found r n positive z e = rw e refl

-- ---- the number that the score stands for

sum_none : (f : ℕ → ℕ) → ((v : ℕ) → f v ≡ 0) → (l : List ℕ) (i : ℕ) → total (take i (map f l)) ≡ 0
unfolding total
sum_none f h l zero = refl
sum_none f h [] (suc i) = refl
sum_none f h (a ∷ l) (suc i) = omega (arith, h a, sum_none f h l i)

zero_at : (m v : ℕ) → ◌≡◌ {A = ℕ} (get_or (replicate m 0) v 0) 0
zero_at zero v = refl
zero_at (suc m) zero = refl
zero_at (suc m) (suc v) = zero_at m v

-- z of no blocks is NaN
no_blocks : (f : Finding) (order bytes : List ℕ) → testing_blocks f bytes ≡ 0 → z_in f order bytes ≡ nan
unfolding positive_of
no_blocks f order bytes e =
    let bit = recorded_bit f.block_size f.low_first bytes in
    let p = part f.division f.width in
    let none : positive_of (counts_of bit 0 (chosen f)) order f.division ≡ 0 =
    ap (λ (c : List ℕ). positive_of c order f.division) (sym (counts_none bit (chosen f)))
    ∙ sum_none (λ v. get_or (replicate (2 ^ length (chosen f)) 0) v 0) (zero_at (2 ^ length (chosen f))) order f.division in
    ap (λ (n : ℕ). z_score n (positive_of (counts_of bit n (chosen f)) order f.division) p) e
    ∙ ap (λ (c : ℕ). z_score 0 c p) none ∙ empty_is_nan p

number_is : (r n positive : ℕ) (z : Float) → (n ≡ 0 → z ≡ nan) → score_number (answer_with r n positive z).score ≡ number_with r z
number_is zero zero positive z h = sym (h refl)
number_is zero (suc n) positive z h = refl
number_is (suc r) n positive z h = refl

pub answer_number : (f : Finding) (order bytes : List ℕ) (scratch : ℕ) (r : Evaluated) → r ≡ evaluated_of f order bytes scratch → score_number r.score ≡ evaluated_number f order bytes scratch
unfolding evaluated_of evaluated_number
answer_number f order bytes scratch r is =
    ap (λ (a : Evaluated). score_number a.score) is
    ∙ number_is (evaluation_refusal f order bytes scratch) (testing_blocks f bytes) (positive_in f order bytes) (z_in f order bytes) (no_blocks f order bytes)

-- ---- the scratch

pub scratch_lent : (e r k : ℕ) (counts scratch : List ℕ) → (e ≡ 0 → ⊥) → scratch ≡ scratch_after e r counts k scratch
scratch_lent zero r k counts scratch h = absurd (h refl)
scratch_lent (suc e) r k counts scratch h = refl

pub scratch_cleared : (e r k : ℕ) (counts scratch : List ℕ) → e ≡ 0 → (r ≡ 0 → ⊥) → cleared k scratch ≡ scratch_after e r counts k scratch
scratch_cleared e r k counts scratch z h = rw z (go r h)
  where
    go : (r : ℕ) → (r ≡ 0 → ⊥) → cleared k scratch ≡ scratch_after 0 r counts k scratch
    go zero h = absurd (h refl)
    go (suc r) h = refl

pub scratch_counted : (e r k : ℕ) (counts scratch : List ℕ) → e ≡ 0 → r ≡ 0 → counts ++ drop (2 ^ k) scratch ≡ scratch_after e r counts k scratch
scratch_counted e r k counts scratch z y = rw (z, y) refl

module _ (k : ℕ) (scratch : List ℕ) where
  zeros_length : length (replicate {A = ℕ} (2 ^ k) 0) ≡ 2 ^ k
  zeros_length = length-replicate {A = ℕ} (2 ^ k) 0

  pub cleared_first : take (2 ^ k) (cleared k scratch) ≡ replicate (2 ^ k) 0
  cleared_first = replaced_first (2 ^ k) (replicate (2 ^ k) 0) scratch zeros_length

  pub cleared_rest : drop (2 ^ k) (cleared k scratch) ≡ drop (2 ^ k) scratch
  cleared_rest = replaced_rest (2 ^ k) (replicate (2 ^ k) 0) scratch zeros_length
