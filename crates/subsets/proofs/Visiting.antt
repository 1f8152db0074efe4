-- A loop that goes from the first subset to the next until there is none, and keeps the first best, ends with the optimal one.
use mathlib.Core.Path.{◌≡◌, refl, sym, ap, subst}
use mathlib.Core.Logic.{◌⊎◌, inl, inr}
use Prim.Native.Nat.{ℕ, zero, suc, ◌+◌, ◌≤◌, ◌<◌}
use native.Mathlib.Nat.{eq-or-lt_of_le, suc_inj, le_refl}
use native.Mathlib.Omega.{arith}
use mathlib.Core.Bool.{Bool, not}
use mathlib.Core.List.{List, [], ◌∷◌}
use lib.Dec.{T}
use lib.ListN.{length}
use Rattle.subsets.specs.Subsets.{Rising, Subset, lex_lt, Next, Last, numbers_from}
use Rattle.subsets.specs.Best.{Order, Beats, Optimal, Sofar, Searches, SubsetsSearched, best_subset}
use Rattle.subsets.proofs.Lex.{lex_head, lex_tail, lex_asym, lex_trans, lex_total}
use Rattle.subsets.proofs.Optimal.{over, stays, best_optimal, optimal_unique}

-- ---- the first subset

numbers_rising : (lo hi k : ℕ) → lo + k ≤ hi → Rising lo hi (numbers_from lo k)
numbers_rising lo hi zero h = tt
numbers_rising lo hi (suc k) h = (le_refl lo, omega arith, numbers_rising (suc lo) hi k (omega arith))

pub length_numbers : (lo k : ℕ) → length (numbers_from lo k) ≡ k
length_numbers lo zero = refl
length_numbers lo (suc k) = ap suc (length_numbers (suc lo) k)

pub numbers_subset : (B k : ℕ) → k ≤ B → Subset B k (numbers_from 0 k)
numbers_subset B k h = record { size = length_numbers 0 k; rising = numbers_rising 0 B k (omega arith) }

numbers_from_is : (lo hi k : ℕ) (s : List ℕ) → length s ≡ k → Rising lo hi s → (s ≡ numbers_from lo k) ⊎ T (lex_lt (numbers_from lo k) s)
numbers_from_is lo hi zero [] e r = inl refl
numbers_from_is lo hi zero (a ∷ s) e r = absurd (omega arith)
numbers_from_is lo hi (suc k) [] e r = absurd (omega arith)
numbers_from_is lo hi (suc k) (a ∷ s) e r = go (eq-or-lt_of_le r.0) (numbers_from_is (suc lo) hi k s (suc_inj e))
  where
    go : (lo ≡ a) ⊎ (lo < a) → (Rising (suc lo) hi s → (s ≡ numbers_from (suc lo) k) ⊎ T (lex_lt (numbers_from (suc lo) k) s)) → (a ∷ s ≡ lo ∷ numbers_from (suc lo) k) ⊎ T (lex_lt (lo ∷ numbers_from (suc lo) k) (a ∷ s))
    go (inr l) f = inr (lex_head lo a (numbers_from (suc lo) k) s l)
    go (inl q) f = elim (f (subst (λ (z : ℕ). Rising (suc z) hi s) (sym q) r.2)) [
      | inl x ↦ inl (let y : s ≡ numbers_from (suc lo) k = x in let z : lo ≡ a = q in cc)
      | inr x ↦ inr (rw (← q) (lex_tail lo (numbers_from (suc lo) k) s x))
    ]

-- every other stands after it
pub numbers_first : (B k : ℕ) (s : List ℕ) → Subset B k s → (s ≡ numbers_from 0 k) ⊎ T (lex_lt (numbers_from 0 k) s)
numbers_first B k s h = numbers_from_is 0 B k s h.size h.rising

-- ---- the loop

module _ {S : Type 0} (less : S → S → Bool) (ok : S → Type 0) (order : Order less ok) (score : List ℕ → S) (B k : ℕ) (fine : (s : List ℕ) → Subset B k s → ok (score s)) where
  begins : k ≤ B → Sofar less score B k (numbers_from 0 k) (numbers_from 0 k)
  begins h = record { current = numbers_subset B k h; subset = numbers_subset B k h; place = inl refl; beats = first }
    where
      first : (s : List ℕ) → Subset B k s → (s ≡ numbers_from 0 k) ⊎ T (lex_lt s (numbers_from 0 k)) → (s ≡ numbers_from 0 k) ⊎ Beats less score (numbers_from 0 k) s
      first s X (inl e) = inl e
      first s X (inr l) = elim (numbers_first B k s X) [
        | inl e ↦ inl e
        | inr q ↦ absurd (lex_asym s (numbers_from 0 k) l q)
      ]

  -- what stands no later than the next is the next, or stands no later than this
  no_later : (cur t s : List ℕ) → Next B k cur t → Subset B k s → (s ≡ t) ⊎ T (lex_lt s t) → (s ≡ t) ⊎ ((s ≡ cur) ⊎ T (lex_lt s cur))
  no_later cur t s n X (inl e) = inl e
  no_later cur t s n X (inr l) = elim (lex_total s cur) [
    | inl q ↦ inr (inr q)
    | inr (inl e) ↦ inr (inl e)
    | inr (inr q) ↦ elim (n.least s X q) [ inl e ↦ inl e | inr w ↦ absurd (lex_asym s t l w) ]
  ]

  takes : (cur best t : List ℕ) → Sofar less score B k cur best → Next B k cur t → T (less (score best) (score t)) → Sofar less score B k t t
  takes cur best t f n h = record { current = n.subset; subset = n.subset; place = inl refl; beats = λ s X q. go s X (no_later cur t s n X q) }
    where
      go : (s : List ℕ) → Subset B k s → (s ≡ t) ⊎ ((s ≡ cur) ⊎ T (lex_lt s cur)) → (s ≡ t) ⊎ Beats less score t s
      go s X (inl e) = inl e
      go s X (inr q) = over less ok order score best t s (fine best f.subset) (fine t n.subset) (fine s X) h (f.beats s X q)

  keeps : (cur best t : List ℕ) → Sofar less score B k cur best → Next B k cur t → T (not (less (score best) (score t))) → Sofar less score B k t best
  keeps cur best t f n h = record { current = n.subset; subset = f.subset; place = inr before; beats = λ s X q. go s X (no_later cur t s n X q) }
    where
      before : T (lex_lt best t)
      before = elim f.place [
        | inl e ↦ subst (λ (z : List ℕ). T (lex_lt z t)) (sym e) n.after
        | inr q ↦ lex_trans best cur t q n.after
      ]

      go : (s : List ℕ) → Subset B k s → (s ≡ t) ⊎ ((s ≡ cur) ⊎ T (lex_lt s cur)) → (s ≡ best) ⊎ Beats less score best s
      go s X (inl e) = subst (λ (z : List ℕ). (z ≡ best) ⊎ Beats less score best z) (sym e) (stays less ok order score best t h before)
      go s X (inr q) = f.beats s X q

  ends : (cur best : List ℕ) → Sofar less score B k cur best → Last B k cur → Optimal less score B k best
  ends cur best f z = record { subset = f.subset; beats = λ s X. f.beats s X (go s X (lex_total s cur)) }
    where
      go : (s : List ℕ) → Subset B k s → T (lex_lt s cur) ⊎ ((s ≡ cur) ⊎ T (lex_lt cur s)) → (s ≡ cur) ⊎ T (lex_lt s cur)
      go s X (inl q) = inr q
      go s X (inr (inl e)) = inl e
      go s X (inr (inr q)) = absurd (z.none s X q)

  searches_here : Searches less score B k
  searches_here = record {
    optimal = λ h. best_optimal less ok order score B k fine (numbers_from 0 k) (numbers_subset B k h);
    unique = λ r p. optimal_unique less ok order score B k fine r (best_subset less score B k) p (best_optimal less ok order score B k fine r p.subset);
    begins = begins;
    takes = takes;
    keeps = keeps;
    ends = ends;
  }

pub searches : SubsetsSearched
searches S less ok order score B k fine = searches_here less ok order score B k fine
