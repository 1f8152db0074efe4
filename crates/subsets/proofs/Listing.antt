-- `subsets B k` lists exactly the k-subsets of the block, once each, in lexicographic order.
use mathlib.Core.Path.{◌≡◌, refl, sym, ap, subst}
use mathlib.Core.Logic.{◌⊎◌, inl, inr}
use Prim.Native.Nat.{ℕ, zero, suc, ◌+◌, ◌≤◌, ◌<◌}
use native.Mathlib.Nat.{le_trans, le_refl, eq-or-lt_of_le, suc_inj}
use native.Mathlib.Omega.{arith}
use mathlib.Core.List.Memᴰ
use mathlib.Core.List.{List, [], ◌∷◌, ◌++◌, map, Memᴰ}
use lib.Dec.{T}
use lib.ListN.{length, get_or}
use Rattle.subsets.specs.Subsets.{Rising, Subset, lex_lt, subsets_from, Sorted, SubsetsListed}
use Rattle.subsets.proofs.Lex.{lex_head, lex_tail, lex_irrefl}

-- ---- a rising list

pub rising_from : (lo lo' hi : ℕ) (s : List ℕ) → lo ≤ lo' → Rising lo' hi s → Rising lo hi s
rising_from lo lo' hi [] h r = tt
rising_from lo lo' hi (a ∷ s) h r = (le_trans h r.0, r.1, r.2)

rising_at : (lo hi : ℕ) (s : List ℕ) → Rising lo hi s → (i : ℕ) → i < length s → get_or s i 0 < hi
rising_at lo hi [] r i h = absurd (omega arith)
rising_at lo hi (a ∷ s) r zero h = r.1
rising_at lo hi (a ∷ s) r (suc i) h = rising_at (suc a) hi s r.2 i (omega arith)

-- every bit of a subset is in the block
pub bits_below : (B k : ℕ) (s : List ℕ) → Subset B k s → (i : ℕ) → i < length s → get_or s i 0 < B
bits_below B k s X = rising_at 0 B s X.rising

abbrev pub Among : ℕ → ℕ → ℕ → List ℕ → Type 0
Among lo hi k s = (length s ≡ k) × Rising lo hi s

-- ---- each that is listed is a subset

among_cast : (lo hi k : ℕ) (s t : List ℕ) → s ≡ t → Among lo hi k s → Among lo hi k t
among_cast lo hi k s t e r = subst (Among lo hi k) e r

pub sound : (m lo hi k : ℕ) (s : List ℕ) → lo + m ≡ hi → Memᴰ s (subsets_from m lo k) → Among lo hi k s
sound zero lo hi zero s e x = among_cast lo hi 0 [] s (sym (Memᴰ.eq_of_singleton x)) (refl, tt)
sound zero lo hi (suc k) s e x = absurd (Memᴰ.not-nil x)
sound (suc m) lo hi zero s e x = among_cast lo hi 0 [] s (sym (Memᴰ.eq_of_singleton x)) (refl, tt)
sound (suc m) lo hi (suc k) s e x =
    go (sound m (suc lo) hi k) (sound m (suc lo) hi (suc k) s (omega arith))
    (Memᴰ.append_cases (map (λ t. lo ∷ t) (subsets_from m (suc lo) k)) x)
  where
    go : ((t : List ℕ) → suc lo + m ≡ hi → Memᴰ t (subsets_from m (suc lo) k) → Among (suc lo) hi k t)
        → (Memᴰ s (subsets_from m (suc lo) (suc k)) → Among (suc lo) hi (suc k) s)
        → Memᴰ s (map (λ t. lo ∷ t) (subsets_from m (suc lo) k)) ⊎ Memᴰ s (subsets_from m (suc lo) (suc k)) → Among lo hi (suc k) s
    go f g (inl y) =
        let w = Memᴰ.of_map (λ t. lo ∷ t) (subsets_from m (suc lo) k) y in
        let r = f w.0 (omega arith) w.1 in
        among_cast lo hi (suc k) (lo ∷ w.0) s w.2 (ap suc r.0, (le_refl lo, omega arith, r.1))
    go f g (inr y) = let r = g y in (r.0, rising_from lo (suc lo) hi s (omega arith) r.1)

-- ---- each subset is listed

pub complete : (m lo hi k : ℕ) (s : List ℕ) → lo + m ≡ hi → Among lo hi k s → Memᴰ s (subsets_from m lo k)
complete zero lo hi zero [] e r = Memᴰ.head refl
complete zero lo hi zero (a ∷ s) e r = absurd (omega arith)
complete zero lo hi (suc k) [] e r = absurd (omega arith)
complete zero lo hi (suc k) (a ∷ s) e r = absurd (omega arith)
complete (suc m) lo hi zero [] e r = Memᴰ.head refl
complete (suc m) lo hi zero (a ∷ s) e r = absurd (omega arith)
complete (suc m) lo hi (suc k) [] e r = absurd (omega arith)
complete (suc m) lo hi (suc k) (a ∷ s) e r =
    go (eq-or-lt_of_le r.1.0) (complete m (suc lo) hi k s (omega arith)) (complete m (suc lo) hi (suc k) (a ∷ s) (omega arith))
  where
    go : (lo ≡ a) ⊎ (lo < a) → (Among (suc lo) hi k s → Memᴰ s (subsets_from m (suc lo) k))
        → (Among (suc lo) hi (suc k) (a ∷ s) → Memᴰ (a ∷ s) (subsets_from m (suc lo) (suc k)))
        → Memᴰ (a ∷ s) (subsets_from (suc m) lo (suc k))
    go (inl q) f g =
        Memᴰ.append_left (subsets_from m (suc lo) (suc k))
        (Memᴰ.cast (ap (λ (x : ℕ). x ∷ s) (sym q))
        (Memᴰ.map (λ t. lo ∷ t) (f (suc_inj r.0, rising_from (suc lo) (suc a) hi s (omega arith) r.1.2))))
    go (inr q) f g =
        Memᴰ.append_right (map (λ t. lo ∷ t) (subsets_from m (suc lo) k)) (g (r.0, (q, r.1.1, r.1.2)))

-- ---- in order

sorted_append : (xs ys : List (List ℕ)) → Sorted xs → Sorted ys → ((x y : List ℕ) → Memᴰ x xs → Memᴰ y ys → T (lex_lt x y)) → Sorted (xs ++ ys)
sorted_append [] ys a b h = b
sorted_append (x ∷ xs) ys a b h =
    (λ y q. go y (Memᴰ.append_cases xs q), sorted_append xs ys a.1 b (λ u v p q. h u v (Memᴰ.tail p) q))
  where
    go : (y : List ℕ) → Memᴰ y xs ⊎ Memᴰ y ys → T (lex_lt x y)
    go y (inl p) = a.0 y p
    go y (inr p) = h x y (Memᴰ.head refl) p

sorted_map : (a : ℕ) (xs : List (List ℕ)) → Sorted xs → Sorted (map (λ t. a ∷ t) xs)
sorted_map a [] h = tt
sorted_map a (x ∷ xs) h =
    (λ y p. let w = Memᴰ.of_map (λ t. a ∷ t) xs p in subst (λ (z : List ℕ). T (lex_lt (a ∷ x) z)) w.2 (lex_tail a x w.0 (h.0 w.0 w.1)), sorted_map a xs h.1)

-- a list that begins with lo stands before one that is as long and rises from lo + 1 on
first_before : (lo hi k : ℕ) (x y : List ℕ) → Among (suc lo) hi (suc k) y → T (lex_lt (lo ∷ x) y)
first_before lo hi k x [] r = absurd (omega arith)
first_before lo hi k x (b ∷ y) r = lex_head lo b x y r.1.0

pub sorted : (m lo k : ℕ) → Sorted (subsets_from m lo k)
sorted zero lo zero = (λ y p. absurd (Memᴰ.not-nil p), tt)
sorted zero lo (suc k) = tt
sorted (suc m) lo zero = (λ y p. absurd (Memᴰ.not-nil p), tt)
sorted (suc m) lo (suc k) =
    sorted_append (map (λ t. lo ∷ t) (subsets_from m (suc lo) k)) (subsets_from m (suc lo) (suc k)) (sorted_map lo (subsets_from m (suc lo) k) (sorted m (suc lo) k)) (sorted m (suc lo) (suc k))
    (λ x y p q.
    let w = Memᴰ.of_map (λ t. lo ∷ t) (subsets_from m (suc lo) k) p in
    subst (λ (z : List ℕ). T (lex_lt z y)) w.2 (first_before lo (suc lo + m) k w.0 y (sound m (suc lo) (suc lo + m) (suc k) y refl q)))

-- ---- the statement on a block

pub listed : SubsetsListed
listed B k = record {
  complete = λ s h. complete B 0 B k s (omega arith) (h.size, h.rising);
  sound = λ s p. let r = sound B 0 B k s (omega arith) p in record { size = r.0; rising = r.1 };
  sorted = sorted B 0 k;
}

-- once each
pub once : (x : List ℕ) (xs : List (List ℕ)) → Sorted (x ∷ xs) → Memᴰ x xs → ⊥
once x xs h p = lex_irrefl x (h.0 x p)
