-- From the counts of the blocks that have at least some bits set to the counts of the bins.
use Rattle.std.specs.Prelude.{◌≡◌, ◌⊎◌, cond, ℕ, suc, ◌+◌, ◌-◌, ◌*◌, ◌/◌, ◌%◌, ◌^◌, ◌≤◌, ◌<◌, List, [], ◌∷◌, eqb, length, get_or}
use Rattle.counting.specs.Sample.{all_set, Bits}

-- the bits that u chooses: those at the places of its ones
unfoldable pub chosen : List ℕ → ℕ → List ℕ
chosen [] u = []
chosen (b ∷ bs) u = cond (eqb (u % 2) 0) (chosen bs (u / 2)) (b ∷ chosen bs (u / 2))

-- the last of the j + 1 bits is set throughout: entry u is the number of blocks that have it and at least the bits of u set
pub record Covered (bit : ℕ → ℕ → ℕ) (n j : ℕ) (bits upper : List ℕ) : Type 0 where
  pub two : Bits bit
  pub width : length bits ≡ suc j
  pub size : length upper ≡ 2 ^ j
  pub at_least : (u : ℕ) → u < 2 ^ j → get_or upper u 0 ≡ all_set bit n (chosen bits (2 ^ j + u))

-- the entries are so for j + 1 bits of some sample
pub record Settles (j : ℕ) (upper : List ℕ) : Type 0 where
  pub bit : ℕ → ℕ → ℕ
  pub n : ℕ
  pub bits : List ℕ
  pub covered : Covered bit n j bits upper

-- from `at` on, the first m entries are less by those that stand `step` after them; all others are as before
pub record Reduced (at step m : ℕ) (before after : List ℕ) : Type 0 where
  pub inside : (i : ℕ) → i < m → get_or after (at + i) 0 ≡ get_or before (at + i) 0 - get_or before (at + step + i) 0
  pub outside : (u : ℕ) → (u < at) ⊎ (at + m ≤ u) → get_or after u 0 ≡ get_or before u 0

-- entries in pairs that stand `step` apart, `step` pairs after another: the second of a pair is no more than the first
pub record Paired (step : ℕ) (bins : List ℕ) : Type 0 where
  pub some : 1 ≤ step
  pub whole : length bins ≡ length bins / (2 * step) * (2 * step)
  pub falls : (hi lo : ℕ) → lo < step → hi < length bins / (2 * step) → get_or bins (hi * (2 * step) + step + lo) 0 ≤ get_or bins (hi * (2 * step) + lo) 0

-- in each of the first m runs of pairs, the first of each pair is less by the second, and the second is as before
pub record Stepped (step m : ℕ) (before after : List ℕ) : Type 0 where
  pub first : (hi lo : ℕ) → lo < step → hi < m → get_or after (hi * (2 * step) + lo) 0 ≡ get_or before (hi * (2 * step) + lo) 0 - get_or before (hi * (2 * step) + step + lo) 0
  pub second : (hi lo : ℕ) → lo < step → hi < m → get_or after (hi * (2 * step) + step + lo) 0 ≡ get_or before (hi * (2 * step) + step + lo) 0

-- entries in fours a, b, c, d: b ≤ a, d ≤ b, d ≤ c, and c − d ≤ a − b
pub record FallsInFours (bins : List ℕ) : Type 0 where
  pub whole : length bins % 4 ≡ 0
  pub first : (u : ℕ) → u % 4 ≡ 0 → u < length bins → get_or bins (u + 1) 0 ≤ get_or bins u 0
  pub second : (u : ℕ) → u % 4 ≡ 0 → u < length bins → get_or bins (u + 3) 0 ≤ get_or bins (u + 2) 0
  pub both : (u : ℕ) → u % 4 ≡ 0 → u < length bins → get_or bins (u + 3) 0 ≤ get_or bins (u + 1) 0
  pub none : (u : ℕ) → u % 4 ≡ 0 → u < length bins → get_or bins (u + 2) 0 - get_or bins (u + 3) 0 ≤ get_or bins u 0 - get_or bins (u + 1) 0

-- in the fours before m, what was a, b, c, d is now a − b − (c − d), b − d, c − d, d
pub record Fours (m : ℕ) (before after : List ℕ) : Type 0 where
  pub none : (u : ℕ) → u % 4 ≡ 0 → u < m → get_or after u 0 ≡ get_or before u 0 - get_or before (u + 1) 0 - (get_or before (u + 2) 0 - get_or before (u + 3) 0)
  pub first : (u : ℕ) → u % 4 ≡ 0 → u < m → get_or after (u + 1) 0 ≡ get_or before (u + 1) 0 - get_or before (u + 3) 0
  pub second : (u : ℕ) → u % 4 ≡ 0 → u < m → get_or after (u + 2) 0 ≡ get_or before (u + 2) 0 - get_or before (u + 3) 0
  pub both : (u : ℕ) → u % 4 ≡ 0 → u < m → get_or after (u + 3) 0 ≡ get_or before (u + 3) 0
