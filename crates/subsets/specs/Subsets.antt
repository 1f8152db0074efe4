-- The k-subsets of a block of B bits, each as its list of bits in rising order, and their lexicographic order.
use Rattle.std.specs.Prelude.{◌≡◌, ◌⊎◌, ℕ, zero, suc, ◌-◌, ◌≤◌, ◌<◌, Bool, true, false, ◌||◌, ◌&&◌, T, ltb, eqb, length, replicate}
use mathlib.Core.List.{List, [], ◌∷◌, ◌++◌, map, Memᴰ}

-- s is strictly rising, from lo on and below hi
abbrev pub Rising : ℕ → ℕ → List ℕ → Type 0
Rising lo hi [] = Unit {0}
Rising lo hi (a ∷ s) = (lo ≤ a) × (a < hi) × Rising (suc a) hi s

-- s is a k-subset of 0, .., B - 1
pub record Subset (B k : ℕ) (s : List ℕ) : Type 0 where
  pub size : length s ≡ k
  pub rising : Rising 0 B s

-- s stands before t: at the first place where they differ s is less, or s ends first
abbrev pub lex_lt : List ℕ → List ℕ → Bool
lex_lt [] [] = false
lex_lt [] (b ∷ t) = true
lex_lt (a ∷ s) [] = false
lex_lt (a ∷ s) (b ∷ t) = ltb a b || (eqb a b && lex_lt s t)

-- the k-subsets of lo, .., lo + m - 1, in lexicographic order: those with lo, then those without
abbrev pub subsets_from : ℕ → ℕ → ℕ → List (List ℕ)
subsets_from zero lo zero = [] ∷ []
subsets_from zero lo (suc k) = []
subsets_from (suc m) lo zero = [] ∷ []
subsets_from (suc m) lo (suc k) = map (λ t. lo ∷ t) (subsets_from m (suc lo) k) ++ subsets_from m (suc lo) (suc k)

-- all k-subsets of a block
abbrev pub subsets : ℕ → ℕ → List (List ℕ)
subsets B k = subsets_from B 0 k

-- each list stands before all that follow it, so none stands twice
abbrev pub Sorted : List (List ℕ) → Type 0
Sorted [] = Unit {0}
Sorted (x ∷ xs) = ((y : List ℕ) → Memᴰ y xs → T (lex_lt x y)) × Sorted xs

-- l holds exactly the k-subsets, once each, in lexicographic order
pub record Lists (B k : ℕ) (l : List (List ℕ)) : Type 0 where
  pub complete : (s : List ℕ) → Subset B k s → Memᴰ s l
  pub sound : (s : List ℕ) → Memᴰ s l → Subset B k s
  pub sorted : Sorted l

-- Theorem: so does `subsets`, for every B and k.
abbrev pub SubsetsListed : Type 0
SubsetsListed = (B k : ℕ) → Lists B k (subsets B k)

-- k numbers from lo on; from 0 on they are the first k-subset
abbrev pub numbers_from : ℕ → ℕ → List ℕ
numbers_from lo zero = []
numbers_from lo (suc k) = lo ∷ numbers_from (suc lo) k

-- t is the next k-subset after s: it stands after s, and every other that does stands after t
pub record Next (B k : ℕ) (s t : List ℕ) : Type 0 where
  pub subset : Subset B k t
  pub after : T (lex_lt s t)
  pub least : (u : List ℕ) → Subset B k u → T (lex_lt s u) → (u ≡ t) ⊎ T (lex_lt t u)

-- no k-subset stands after s
pub record Last (B k : ℕ) (s : List ℕ) : Type 0 where
  pub none : (u : List ℕ) → Subset B k u → T (lex_lt s u) → ⊥

-- a bit array: the subset, and 0 in the entries past it
abbrev pub padded : List ℕ → List ℕ
padded s = s ++ replicate (20 - length s) 0
