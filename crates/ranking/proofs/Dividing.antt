-- Division and z are what the rule says, and nothing else is. Assumes nothing.
use mathlib.Core.Path.{◌≡◌, refl, sym, ap, ◌∙◌, subst}
use mathlib.Core.Logic.{◌⊎◌, inl, inr}
use Prim.Native.Nat.{ℕ, suc, ◌-◌, ◌*◌, ◌^◌, ◌≤◌, ◌<◌}
use native.Mathlib.Decide.{dec_lt}
use native.Mathlib.Nat.{zero-mul}
use native.Mathlib.Omega.{arith}
use mathlib.Core.Bool.{not}
use mathlib.Core.List.{List}
use lib.Dec.{T, T_not}
use lib.Arith.{le→nltb}
use lib.Pow.{pow_mono}
use lib.ListN.{take}
use lib.Ieee.{Float, nan, inf, fin, binary64, lt, is_nan, fits, up, down}
use lib.Ieee.Fits.{div-fits}
use Rattle.scoring.specs.Halves.{part}
use Rattle.scoring.specs.Score.{z_over, z_score, abs, Number}
use Rattle.scoring.proofs.Sign.{abs_nan, abs_again, abs_fits}
use Rattle.scoring.proofs.Defined.{size_is_number, empty_is_nan}
use Rattle.scoring.proofs.Less.{right_number, asym, co, equal}
use Rattle.ranking.specs.Peak.{Peak, peak}
use Rattle.counting.specs.Sample.{total}
use Rattle.ranking.specs.Ranking.{in_bin_order, size_at, zero_score, as_ranking, score_of, IsRanking, RankingIsRight, RankingIsAlone, EmptyRanking}
use Rattle.ranking.specs.declared.ranking.Ranking.{Ranking}
use Rattle.ranking.proofs.Totals.{sum_most}
use Rattle.ranking.proofs.Peaks.{peak_low, peak_high, peak_attained, peak_start, peak_has, peak_greatest, peak_first}

-- ---- sizes
size_unsigned : (n k : ℕ) (l : List ℕ) (i : ℕ) → abs (size_at n k l i) ≡ size_at n k l i
unfolding size_at
size_unsigned n k l i = abs_again (z_score n (total (take i l)) (part i k))

size_fits : (n k : ℕ) (l : List ℕ) (i : ℕ) → T (fits binary64 (size_at n k l i))
unfolding size_at z_score z_over
size_fits n k l i = abs_fits (z_score n (total (take i l)) (part i k)) (div-fits binary64 _ _)

size_number : (n k : ℕ) (l : List ℕ) (i : ℕ) → 1 ≤ n → n ≤ 16777216 → k ≤ 20 → 1 ≤ i → i < 2 ^ k → Number (size_at n k l i)
unfolding size_at
size_number n k l i N M K I H = size_is_number i k n I H K N M (total (take i l))

zero_unsigned : abs zero_score ≡ zero_score
unfolding abs
zero_unsigned = refl

zero_number : Number zero_score
unfolding is_nan
zero_number = tt

zero_fits : T (fits binary64 zero_score)
unfolding fits
zero_fits = tt

-- no size is below 0
not_below : (x : Float) → T (not (lt (abs x) zero_score))
unfolding abs lt
not_below nan = tt
not_below (inf s) = tt
not_below (fin s m e) = le→nltb (m * up e * 1) (0 * 1 * down e) (omega (arith, zero-mul (down e)))

-- nothing is less than NaN
not_less_nan : (x : Float) → T (not (lt x nan))
unfolding lt
not_less_nan nan = tt
not_less_nan (inf s) = tt
not_less_nan (fin s m e) = tt

-- ---- at every n
module _ (n k : ℕ) (counts : List ℕ) where
  pub score_low : 1 ≤ (score_of n k counts).division
  unfolding score_of
  score_low = peak_low lt zero_score (size_at n k (in_bin_order counts)) (2 ^ k - 1)

  pub score_high : 1 ≤ k → (score_of n k counts).division < 2 ^ k
  unfolding score_of
  score_high h =
      let p : 2 ^ 1 ≤ 2 ^ k = pow_mono {i = 1} h in
      let e : 2 ^ k - 1 ≡ suc (2 ^ k - 2) = omega arith in
      let q : (peak lt zero_score (size_at n k (in_bin_order counts)) (2 ^ k - 1)).place ≤ suc (2 ^ k - 2) =
      subst (λ (i : ℕ). (peak lt zero_score (size_at n k (in_bin_order counts)) i).place ≤ suc (2 ^ k - 2)) (sym e) (peak_high lt zero_score (size_at n k (in_bin_order counts)) (2 ^ k - 2)) in
      omega arith

  -- z is no NaN
  pub score_number : Number (score_of n k counts).z
  unfolding score_of
  score_number = peak_has lt zero_score (size_at n k (in_bin_order counts)) Number zero_number (λ a j t. right_number a (size_at n k (in_bin_order counts) j) t) (2 ^ k - 1)

  -- it is a double
  pub score_fits : T (fits binary64 (score_of n k counts).z)
  unfolding score_of
  score_fits = peak_has lt zero_score (size_at n k (in_bin_order counts)) (λ x. T (fits binary64 x)) zero_fits (λ a j t. size_fits n k (in_bin_order counts) j) (2 ^ k - 1)

  -- and has no minus sign
  pub score_unsigned : abs (score_of n k counts).z ≡ (score_of n k counts).z
  unfolding score_of
  score_unsigned = peak_has lt zero_score (size_at n k (in_bin_order counts)) (λ x. abs x ≡ x) zero_unsigned (λ a j t. size_unsigned n k (in_bin_order counts) j) (2 ^ k - 1)

-- ---- an empty sample: division 1, z 0
pub empty_ranking : EmptyRanking
unfolding score_of size_at
empty_ranking k counts h = ap as_ranking (peak_start lt zero_score (size_at 0 k (in_bin_order counts)) (2 ^ k - 1) (λ j. subst (λ (x : Float). T (not (lt zero_score x))) (sym (size j)) (not_less_nan zero_score)))
  where
    none : (j : ℕ) → total (take j (in_bin_order counts)) ≡ 0
    none j = omega (arith, sum_most counts j)

    size : (j : ℕ) → size_at 0 k (in_bin_order counts) j ≡ nan
    size j = ap (λ (c : ℕ). abs (z_score 0 c (part j k))) (none j) ∙ ap abs (empty_is_nan (part j k)) ∙ abs_nan

-- ---- any other
module _ (n k : ℕ) (counts : List ℕ) (N : 1 ≤ n) (M : n ≤ 16777216) (K : 1 ≤ k) (L : k ≤ 20) where
  some_bins : 2 ≤ 2 ^ k
  some_bins = pow_mono {i = 1} K

  score_greatest : (i : ℕ) → 1 ≤ i → i < 2 ^ k → T (not (lt (score_of n k counts).z (size_at n k (in_bin_order counts) i)))
  unfolding score_of
  score_greatest i l h = peak_greatest lt zero_score (size_at n k (in_bin_order counts)) Number right_number asym co (2 ^ k - 1) i l (omega arith)

  score_first : (i : ℕ) → 1 ≤ i → i < (score_of n k counts).division → T (lt (size_at n k (in_bin_order counts) i) (score_of n k counts).z)
  unfolding score_of
  score_first i l h =
      peak_first lt zero_score (size_at n k (in_bin_order counts)) Number right_number asym co (2 ^ k - 1)
      (λ j p q. size_number n k (in_bin_order counts) j N M L p (omega (arith, some_bins))) i l h

  score_attained : (score_of n k counts).z ≡ size_at n k (in_bin_order counts) (score_of n k counts).division
  unfolding score_of
  score_attained = go (peak_attained lt zero_score (size_at n k (in_bin_order counts)) (2 ^ k - 1))
    where
      -- 0 stays only where the first division has it
      still : (score_of n k counts).z ≡ zero_score → zero_score ≡ size_at n k (in_bin_order counts) 1
      still e =
          equal zero_score (size_at n k (in_bin_order counts) 1) zero_fits (size_fits n k (in_bin_order counts) 1) zero_number
          (size_number n k (in_bin_order counts) 1 N M L (omega arith) (omega (arith, some_bins))) zero_unsigned (size_unsigned n k (in_bin_order counts) 1)
          (subst (λ (x : Float). T (not (lt x (size_at n k (in_bin_order counts) 1)))) e (score_greatest 1 (omega arith) (omega (arith, some_bins))))
          (subst (λ (x : Float). T (not (lt x zero_score))) (size_unsigned n k (in_bin_order counts) 1) (not_below (size_at n k (in_bin_order counts) 1)))

      go : ((peak lt zero_score (size_at n k (in_bin_order counts)) (2 ^ k - 1)).value ≡ size_at n k (in_bin_order counts) (peak lt zero_score (size_at n k (in_bin_order counts)) (2 ^ k - 1)).place)
          ⊎ (peak lt zero_score (size_at n k (in_bin_order counts)) (2 ^ k - 1) ≡ record { place = 1; value = zero_score })
          → (peak lt zero_score (size_at n k (in_bin_order counts)) (2 ^ k - 1)).value ≡ size_at n k (in_bin_order counts) (peak lt zero_score (size_at n k (in_bin_order counts)) (2 ^ k - 1)).place
      go (inl e) = e
      go (inr e) = ap (λ (p : Peak Float). p.value) e ∙ still (ap (λ (p : Peak Float). p.value) e) ∙ ap (λ (p : Peak Float). size_at n k (in_bin_order counts) p.place) (sym e)

  is_ranking : IsRanking n k counts (score_of n k counts)
  is_ranking = record {
    low = score_low n k counts;
    high = score_high n k counts K;
    attained = score_attained;
    greatest = score_greatest;
    first = score_first;
  }

  -- of two rankings neither has the earlier division
  not_earlier : (r s : Ranking) → IsRanking n k counts r → IsRanking n k counts s → r.division < s.division → ⊥
  not_earlier r s p q h =
      T_not (lt r.z s.z)
      (subst (λ (x : Float). T (not (lt r.z x))) (sym q.attained) (p.greatest s.division q.low q.high))
      (subst (λ (x : Float). T (lt x s.z)) (sym p.attained) (q.first r.division p.low h))

  unique : (r : Ranking) → IsRanking n k counts r → r ≡ score_of n k counts
  unique r p = go (dec_lt r.division (score_of n k counts).division) (dec_lt (score_of n k counts).division r.division)
    where
      q : IsRanking n k counts (score_of n k counts)
      q = is_ranking

      same : r.division ≡ (score_of n k counts).division → r ≡ score_of n k counts
      same e =
          let f : r.z ≡ (score_of n k counts).z = p.attained ∙ ap (size_at n k (in_bin_order counts)) e ∙ sym q.attained in
          λ i. record { division = e i; z = f i }

      go : Dec (r.division < (score_of n k counts).division) → Dec ((score_of n k counts).division < r.division) → r ≡ score_of n k counts
      go (yes h) d = absurd (not_earlier r (score_of n k counts) p q h)
      go (no g) (yes h) = absurd (not_earlier (score_of n k counts) r q p h)
      go (no g) (no h) = same (omega arith)

pub ranking_is_right : RankingIsRight
ranking_is_right = is_ranking

pub ranking_is_alone : RankingIsAlone
ranking_is_alone = unique
