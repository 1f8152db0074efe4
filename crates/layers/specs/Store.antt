-- The store of the layered search: for each subset of 1 to max(1, k − 1) bits the number of blocks with all its bits set, by size, then in lexicographic order.
use Rattle.std.specs.Prelude.{◌≡◌, ℕ, zero, suc, ◌+◌, ◌-◌, ◌^◌, ◌≤◌, ◌<◌, max, Bool, true, false, cond, ◌&&◌, List, [], ◌++◌, map, leb, length, get_or, take}
use Rattle.counting.specs.Block.{valid_size}
use Rattle.counting.specs.Sample.{all_set}
use Rattle.subsets.specs.Bits.{valid_width}
use Rattle.subsets.specs.Subsets.{Subset, subsets}
use Rattle.subsets.specs.Choose.{choose}
use Rattle.subsets.specs.Rank.{rank_of}

-- the counts of the subsets of 1 to m bits
unfoldable pub store_to : (ℕ → ℕ → ℕ) → ℕ → ℕ → ℕ → List ℕ
store_to bit n B zero = []
store_to bit n B (suc m) = store_to bit n B m ++ map (all_set bit n) (subsets B (suc m))

-- how many these are
unfoldable pub size_to : ℕ → ℕ → ℕ
size_to B zero = 0
size_to B (suc m) = size_to B m + choose B (suc m)

-- the most bits of a subset that is kept: max(1, k − 1)
abbrev pub widest : ℕ → ℕ
widest k = max 1 (k - 1)

-- the store of the search for k bits, and its size: the sum of C(B, d) over d from 1 to max(1, k − 1)
abbrev pub store_of : (ℕ → ℕ → ℕ) → ℕ → ℕ → ℕ → List ℕ
store_of bit n B k = store_to bit n B (widest k)

abbrev pub store_size : ℕ → ℕ → ℕ
store_size B k = size_to B (widest k)

-- where the subsets of d bits begin
abbrev pub offset : ℕ → ℕ → ℕ
offset B d = size_to B (d - 1)

-- whether a store of a entries is long enough, and the sum at most 2^32: then a search is by layers
unfoldable pub store_suffices : ℕ → ℕ → ℕ → Bool
store_suffices B k a = cond (leb (store_size B k) (2 ^ 32)) (leb (store_size B k) a) false

-- what a store then has: room, and places below 2^32
pub record Roomy (B k : ℕ) (a : ℕ) : Type 0 where
  pub few : store_size B k ≤ 2 ^ 32
  pub room : store_size B k ≤ a

-- Theorem: so just where it suffices.
pub record SufficesRoomy (B k a : ℕ) : Type 0 where
  pub roomy : store_suffices B k a ≡ true → Roomy B k a
  pub suffices : Roomy B k a → store_suffices B k a ≡ true

-- how many entries a store must have for a search by layers; 0 where no store makes it one: B is no block size, k no width in it, or the sum above 2^32
unfoldable pub store_needed : ℕ → ℕ → ℕ
store_needed B k = cond (valid_size B && (valid_width k && (leb k B && leb (store_size B k) (2 ^ 32)))) (store_size B k) 0

-- Theorem: for a width in a block, a store suffices just where it has as many, and these are not 0.
abbrev pub NeededSuffices : Type 0
NeededSuffices =
    (B k a : ℕ) → valid_size B ≡ true → valid_width k ≡ true → k ≤ B → store_suffices B k a ≡ (leb 1 (store_needed B k) && leb (store_needed B k) a)

-- the store begins with the counts of the subsets of 1 to m bits
abbrev pub HoldsTo : (ℕ → ℕ → ℕ) → ℕ → ℕ → ℕ → List ℕ → Type 0
HoldsTo bit n B m store = take (size_to B m) store ≡ store_to bit n B m

-- the store has room, and begins with the counts that the search for k bits keeps
pub record Holds (bit : ℕ → ℕ → ℕ) (n B k : ℕ) (store : List ℕ) : Type 0 where
  pub roomy : Roomy B k (length store)
  pub entries : HoldsTo bit n B (widest k) store

-- What is shown of the store: its size, and the entry of every subset that it keeps, by size and rank.
pub record Keeps (bit : ℕ → ℕ → ℕ) (n B k : ℕ) : Type 0 where
  pub size : length (store_of bit n B k) ≡ store_size B k
  pub inside : (d : ℕ) (s : List ℕ) → 1 ≤ d → d ≤ widest k → Subset B d s → offset B d + rank_of B s < store_size B k
  pub entry : (d : ℕ) (s : List ℕ) → 1 ≤ d → d ≤ widest k → Subset B d s → get_or (store_of bit n B k) (offset B d + rank_of B s) 0 ≡ all_set bit n s

-- Theorem: so for every sample, block and width.
abbrev pub StoreKeeps : Type 0
StoreKeeps = (bit : ℕ → ℕ → ℕ) (n B k : ℕ) → Keeps bit n B k
