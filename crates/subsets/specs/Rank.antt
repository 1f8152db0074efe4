-- The rank of a subset: the number of k-subsets before it.
use Rattle.std.specs.Prelude.{◌≡◌, ℕ, suc, ◌+◌, ◌-◌, ◌^◌, ◌≤◌, ◌<◌, cond, List, [], ◌∷◌, T, leb, eqb, length, Result, Ok, Err}
use Rattle.counting.specs.Block.{valid_size}
use Rattle.counting.specs.Refusal.{number_of}
use Rattle.counting.specs.declared.refusal.Refusal.{Refusal}
use Rattle.subsets.specs.Subsets.{Subset, lex_lt, subsets, numbers_from, Next, Last}
use Rattle.subsets.specs.Choose.{choose}
use Rattle.subsets.specs.Bits.{valid_width, bits_refusal}

-- how many of those listed stand before s
abbrev pub count_before : List ℕ → List (List ℕ) → ℕ
count_before s [] = 0
count_before s (t ∷ ts) = cond (lex_lt t s) 1 0 + count_before s ts

-- the number of k-subsets before s, which has k bits
abbrev pub rank_of : ℕ → List ℕ → ℕ
rank_of B s = count_before s (subsets B (length s))

-- over the bits of s, the ways to pick that many bits, itself and those after it, from the positions above it: those after s that first differ from it there
abbrev pub ways_above : ℕ → List ℕ → ℕ
ways_above B [] = 0
ways_above B (a ∷ s) = choose (B - 1 - a) (suc (length s)) + ways_above B s

-- What ranks are to be: the number of all k-subsets, less one, less the ways above the bits (nothing is cut off at 0, by `whole`), and 0, 1, .., choose B k - 1
-- in their order
pub record Ranks (B k : ℕ) : Type 0 where
  pub total : length (subsets B k) ≡ choose B k
  pub index : (s : List ℕ) → Subset B k s → rank_of B s ≡ choose B k - 1 - ways_above B s
  pub whole : (s : List ℕ) → Subset B k s → rank_of B s + 1 + ways_above B s ≡ choose B k
  pub below : (s : List ℕ) → Subset B k s → rank_of B s < choose B k
  pub first : k ≤ B → rank_of B (numbers_from 0 k) ≡ 0
  pub next : (s t : List ℕ) → Subset B k s → Next B k s t → rank_of B t ≡ suc (rank_of B s)
  pub last : (s : List ℕ) → Subset B k s → Last B k s → suc (rank_of B s) ≡ choose B k
  pub rises : (s t : List ℕ) → Subset B k s → Subset B k t → T (lex_lt s t) → rank_of B s < rank_of B t
  pub same : (s t : List ℕ) → Subset B k s → Subset B k t → rank_of B s ≡ rank_of B t → s ≡ t

-- Theorem: so for every B and k.
abbrev pub SubsetsRanked : Type 0
SubsetsRanked = (B k : ℕ) → Ranks B k

-- which refusal `compute_index` gives for the bits s, 0 for none: the first that applies
unfoldable pub rank_refusal : ℕ → ℕ → List ℕ → ℕ
rank_refusal B k s =
    cond (valid_size B)
    (cond (valid_width k)
    (cond (leb k B)
    (cond (eqb (bits_refusal B s) 0)
    (cond (leb (choose B k) (2 ^ 32)) 0 12)
    (bits_refusal B s))
    3)
    2)
    1

-- an answer of `compute_index` as two numbers: the rank beside 0, or 0 beside a refusal
pub record Ranked : Type 0 where
  pub refusal : ℕ
  pub rank : ℕ

-- the two numbers of an answer
abbrev pub as_ranked : Result ℕ Refusal → Ranked
as_ranked (Ok rank) = record { refusal = 0; rank = rank }
as_ranked (Err r) = record { refusal = number_of r; rank = 0 }

-- what `compute_index` returns: the rank beside 0, or 0 beside a refusal
unfoldable pub ranked_of : ℕ → ℕ → List ℕ → Ranked
ranked_of B k s =
    cond (eqb (rank_refusal B k s) 0)
    (record { refusal = 0; rank = rank_of B s })
    (record { refusal = rank_refusal B k s; rank = 0 })
