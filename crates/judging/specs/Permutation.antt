-- When a list is an order of the bins.
use Rattle.std.specs.Prelude.{◌≡◌, ℕ, Bool, true, false, cond, List, [], ◌∷◌, eqb, ltb, length}
use Rattle.counting.specs.Sample.{list_of}
use Rattle.ranking.specs.Order.{Permuted}

-- whether a stands in the list
unfoldable pub among : ℕ → List ℕ → Bool
among a [] = false
among a (b ∷ l) = cond (eqb a b) true (among a l)

-- every entry is a bin below m, and stands in no later place
unfoldable pub each_once : ℕ → List ℕ → Bool
each_once m [] = true
each_once m (a ∷ l) = cond (ltb a m) (cond (among a l) false (each_once m l)) false

-- the list is a permutation of the bins 0, 1, .., m - 1
abbrev pub Permutation : ℕ → List ℕ → Type 0
Permutation m l = Permuted (list_of m (λ v. v)) l

-- Theorem: of the lists of m entries the test passes just the permutations.
abbrev pub OncePermutes : Type 0
OncePermutes =
    (m : ℕ) (l : List ℕ) → length l ≡ m → (each_once m l ≡ true → Permutation m l) × (Permutation m l → each_once m l ≡ true)
