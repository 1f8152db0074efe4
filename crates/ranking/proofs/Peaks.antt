-- What a peak is: none of the values is greater, each earlier one is less, and it is one of them or the start. Assumes nothing.
use mathlib.Core.Path.{◌≡◌, refl, sym, subst}
use mathlib.Core.Logic.{◌⊎◌, inl, inr}
use Prim.Native.Nat.{ℕ, zero, suc, ◌≤◌, ◌<◌}
use native.Mathlib.Decide.{ℕ_discrete}
use native.Mathlib.Omega.{arith}
use mathlib.Core.Bool.{Bool, true, false, not}
use lib.Dec.{T, T_not, not_T}
use Rattle.ranking.specs.Peak.{Peak, better, peak}

-- what holds of the new one where it is taken, and else of the best so far, holds of the better
stepped : {S : Type 0} (P : Peak S → Type 0) (v : Bool) (i : ℕ) (new : S) (best : Peak S) → (T v → P (record { place = i; value = new })) → (T (not v) → P best) → P (better v i new best)
stepped P true i new best f g = f tt
stepped P false i new best f g = g tt

module _ {S : Type 0} (less : S → S → Bool) (start : S) (value : ℕ → S) where
  pub peak_low : (i : ℕ) → 1 ≤ (peak less start value i).place
  unfolding peak
  peak_low zero = omega arith
  peak_low (suc i) =
      stepped (λ p. 1 ≤ p.place) (less (peak less start value i).value (value (suc i))) (suc i) (value (suc i)) (peak less start value i) (λ t. omega arith) (λ t. peak_low i)

  pub peak_high : (i : ℕ) → (peak less start value (suc i)).place ≤ suc i
  unfolding peak
  peak_high zero =
      stepped (λ p. p.place ≤ 1) (less start (value 1)) 1 (value 1) (peak less start value 0) (λ t. omega arith) (λ t. omega arith)
  peak_high (suc i) =
      stepped (λ p. p.place ≤ suc (suc i)) (less (peak less start value (suc i)).value (value (suc (suc i)))) (suc (suc i)) (value (suc (suc i))) (peak less start value (suc i))
      (λ t. omega arith) (λ t. omega (arith, peak_high i))

  -- one of the values, or the start
  abbrev Attained : Peak S → Type 0
  Attained p = (p.value ≡ value p.place) ⊎ (p ≡ record { place = 1; value = start })

  pub peak_attained : (i : ℕ) → Attained (peak less start value i)
  unfolding peak
  peak_attained zero = inr refl
  peak_attained (suc i) =
      stepped Attained (less (peak less start value i).value (value (suc i))) (suc i) (value (suc i)) (peak less start value i) (λ t. inl refl) (λ t. peak_attained i)

  -- where no value is greater than the start, that stays
  pub peak_start : (i : ℕ) → ((j : ℕ) → T (not (less start (value j)))) → peak less start value i ≡ record { place = 1; value = start }
  unfolding peak
  peak_start zero h = refl
  peak_start (suc i) h =
      stepped (λ p. p ≡ record { place = 1; value = start }) (less (peak less start value i).value (value (suc i))) (suc i) (value (suc i)) (peak less start value i)
      (λ t. absurd (T_not (less start (value (suc i))) (h (suc i)) (subst (λ (p : Peak S). T (less p.value (value (suc i)))) (peak_start i h) t)))
      (λ t. peak_start i h)

  -- a property that the start has and that a value has wherever something is less than it
  pub peak_has : (P : S → Type 0) → P start → ((a : S) (j : ℕ) → T (less a (value j)) → P (value j)) → (i : ℕ) → P (peak less start value i).value
  unfolding peak
  peak_has P s h zero = s
  peak_has P s h (suc i) =
      stepped (λ p. P p.value) (less (peak less start value i).value (value (suc i))) (suc i) (value (suc i)) (peak less start value i)
      (λ t. h (peak less start value i).value (suc i) t) (λ t. peak_has P s h i)

  module _ (ok : S → Type 0) (right : (a b : S) → T (less a b) → ok b) (asym : (a b : S) → T (less a b) → T (less b a) → ⊥)
      (co : (a b c : S) → ok b → T (less a c) → T (not (less a b)) → T (less b c)) where
    pub peak_greatest : (i j : ℕ) → 1 ≤ j → j ≤ i → T (not (less (peak less start value i).value (value j)))
    unfolding peak
    peak_greatest zero j l h = let f : ⊥ = omega arith in absurd f
    peak_greatest (suc i) j l h =
        stepped (λ p. T (not (less p.value (value j)))) (less (peak less start value i).value (value (suc i))) (suc i) (value (suc i)) (peak less start value i)
        (λ t. not_T (less (value (suc i)) (value j)) (λ u. taken t u (ℕ_discrete j (suc i)) (λ n. peak_greatest i j l (omega arith))))
        (λ t. kept t (ℕ_discrete j (suc i)) (λ n. peak_greatest i j l (omega arith)))
      where
        taken : T (less (peak less start value i).value (value (suc i))) → T (less (value (suc i)) (value j)) → Dec (j ≡ suc i)
            → ((j ≡ suc i → ⊥) → T (not (less (peak less start value i).value (value j)))) → ⊥
        taken t u (yes e) f = let w = subst (λ (x : ℕ). T (less (value (suc i)) (value x))) e u in asym (value (suc i)) (value (suc i)) w w
        taken t u (no n) f =
            asym (value (suc i)) (value j) u
            (co (peak less start value i).value (value j) (value (suc i)) (right (value (suc i)) (value j) u) t (f n))

        kept : T (not (less (peak less start value i).value (value (suc i)))) → Dec (j ≡ suc i)
            → ((j ≡ suc i → ⊥) → T (not (less (peak less start value i).value (value j)))) → T (not (less (peak less start value i).value (value j)))
        kept t (yes e) f = subst (λ (x : ℕ). T (not (less (peak less start value i).value (value x)))) (sym e) t
        kept t (no n) f = f n

    pub peak_first : (i : ℕ) → ((j : ℕ) → 1 ≤ j → j ≤ i → ok (value j)) → (j : ℕ) → 1 ≤ j → j < (peak less start value i).place → T (less (value j) (peak less start value i).value)
    unfolding peak
    peak_first zero o j l h = let f : ⊥ = omega arith in absurd f
    peak_first (suc i) o j l h =
        stepped (λ p. j < p.place → T (less (value j) p.value)) (less (peak less start value i).value (value (suc i))) (suc i) (value (suc i)) (peak less start value i)
        (λ t u. co (peak less start value i).value (value j) (value (suc i)) (o j l (omega arith)) t (peak_greatest i j l (omega arith)))
        (λ t u. peak_first i (λ x y z. o x y (omega arith)) j l u) h
