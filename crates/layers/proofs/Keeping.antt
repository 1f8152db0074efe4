-- The entries of the store (`keeps`): the counts of a width stand from its offset on, each at its subset's rank.
use mathlib.Core.Path.{◌≡◌, refl, sym, ap, ◌∙◌}
use Prim.Native.Nat.{ℕ, zero, suc, ◌+◌, ◌-◌, ◌≤◌, ◌<◌}
use native.Mathlib.Omega.{arith}
use native.Mathlib.Decide.{ℕ_discrete}
use mathlib.Core.List.{List, [], ◌∷◌, ◌++◌, map}
use lib.ListN.{length, get_or, length-append, length-map, get_or-append}
use lib.Seq.{get_or-append-add, get_or_at}
use Rattle.counting.specs.Sample.{all_set}
use Rattle.subsets.specs.Subsets.{Subset, subsets}
use Rattle.subsets.specs.Choose.{choose}
use Rattle.subsets.specs.Rank.{rank_of}
use Rattle.subsets.proofs.Ranking.{ranks}
use Rattle.subsets.proofs.Walking.{stands, rank_here}
use Rattle.layers.specs.Store.{store_to, size_to, widest, offset, Keeps, StoreKeeps}

-- ---- one width

map_append : (f : List ℕ → ℕ) (xs ys : List (List ℕ)) → map f (xs ++ ys) ≡ map f xs ++ map f ys
map_append f [] ys = refl
map_append f (x ∷ xs) ys = ap (λ (l : List ℕ). f x ∷ l) (map_append f xs ys)

-- at a subset's rank stands what a function makes of it
pub at_rank : (f : List ℕ → ℕ) (B d : ℕ) (s : List ℕ) → Subset B d s → get_or (map f (subsets B d)) (rank_of B s) 0 ≡ f s
at_rank f B d s h =
    let w = stands B d s h in
    let e : map f (subsets B d) ≡ map f w.pre ++ (f s ∷ map f w.rest) = ap (map f) w.here ∙ map_append f w.pre (s ∷ w.rest) in
    ap (λ (l : List ℕ). get_or l (rank_of B s) 0) e
    ∙ get_or_at (map f w.pre) (f s) (map f w.rest) 0 (rank_of B s) (length-map w.pre f ∙ sym (rank_here B d w.pre s w.rest w.here h.size))

-- ---- all widths

module _ (bit : ℕ → ℕ → ℕ) (n B : ℕ) where
  pub length_store : (m : ℕ) → length (store_to bit n B m) ≡ size_to B m
  unfolding store_to size_to
  length_store zero = refl
  length_store (suc m) =
      length-append (store_to bit n B m) (map (all_set bit n) (subsets B (suc m)))
      ∙ omega (arith, length_store m, length-map (subsets B (suc m)) (all_set bit n), (ranks B (suc m)).total)

  pub below_size : (m d : ℕ) (s : List ℕ) → 1 ≤ d → d ≤ m → Subset B d s → offset B d + rank_of B s < size_to B m
  unfolding size_to
  below_size zero d s pos le h = absurd (omega arith)
  below_size (suc m) d s pos le h = go (ℕ_discrete d (suc m)) (below_size m d s pos)
    where
      go : Dec (d ≡ suc m) → (d ≤ m → Subset B d s → offset B d + rank_of B s < size_to B m) → offset B d + rank_of B s < size_to B m + choose B (suc m)
      go (yes e) f =
          let p : d - 1 ≡ m = omega arith in
          omega (arith, ap (size_to B) p, ap (choose B) e, (ranks B d).below s h)
      go (no e) f = omega (arith, f (omega arith) h)

  pub entry_at : (m d : ℕ) (s : List ℕ) → 1 ≤ d → d ≤ m → Subset B d s → get_or (store_to bit n B m) (offset B d + rank_of B s) 0 ≡ all_set bit n s
  unfolding store_to
  entry_at zero d s pos le h = absurd (omega arith)
  entry_at (suc m) d s pos le h = go (ℕ_discrete d (suc m)) (entry_at m d s pos)
    where
      go : Dec (d ≡ suc m) → (d ≤ m → Subset B d s → get_or (store_to bit n B m) (offset B d + rank_of B s) 0 ≡ all_set bit n s)
          → get_or (store_to bit n B m ++ map (all_set bit n) (subsets B (suc m))) (offset B d + rank_of B s) 0 ≡ all_set bit n s
      go (yes e) f =
          let p : d - 1 ≡ m = omega arith in
          let q : offset B d + rank_of B s ≡ length (store_to bit n B m) + rank_of B s = omega (arith, ap (size_to B) p, length_store m) in
          ap (λ (i : ℕ). get_or (store_to bit n B m ++ map (all_set bit n) (subsets B (suc m))) i 0) q
          ∙ get_or-append-add (store_to bit n B m) (map (all_set bit n) (subsets B (suc m))) (rank_of B s) 0
          ∙ at_rank (all_set bit n) B (suc m) s (rw e at h)
      go (no e) f =
          let l : d ≤ m = omega arith in
          get_or-append (store_to bit n B m) (map (all_set bit n) (subsets B (suc m))) 0 (offset B d + rank_of B s) (omega (arith, below_size m d s pos l h, length_store m))
          ∙ f l h

pub keeps : (bit : ℕ → ℕ → ℕ) (n B k : ℕ) → Keeps bit n B k
keeps bit n B k = record { size = length_store bit n B (widest k); inside = below_size bit n B (widest k); entry = entry_at bit n B (widest k) }

pub store_keeps : StoreKeeps
store_keeps = keeps
