-- A run: the subsets that differ in their last bit alone.
use Rattle.std.specs.Prelude.{◌≡◌, ℕ, ◌+◌, ◌-◌, ◌^◌, ◌≤◌, ◌<◌, List, [], ◌∷◌, ◌++◌, length, get_or, take}
use Rattle.counting.specs.Sample.{count_in, all_set}
use Rattle.layers.specs.Gather.{Tables}

-- the last of the bits, and those before it
abbrev pub last_bit : List ℕ → ℕ
last_bit bits = get_or bits (length bits - 1) 0

abbrev pub leading : List ℕ → List ℕ
leading bits = take (length bits - 1) bits

-- the first half of the bins are those of the leading bits
abbrev pub Halved : (ℕ → ℕ → ℕ) → ℕ → List ℕ → List ℕ → Type 0
Halved bit n bits bins = (v : ℕ) → v < 2 ^ (length bits - 1) → get_or bins v 0 ≡ count_in bit n (leading bits) v

-- .. where they are three or more; the bins of fewer are written straight
abbrev pub Shared : (ℕ → ℕ → ℕ) → ℕ → List ℕ → List ℕ → Type 0
Shared bit n bits bins = 3 ≤ length bits → Halved bit n bits bins

-- What a run keeps from the bits on: the places in the store, the ways above each bit, and from entry 441 on, for each b from the last bit on, the number
-- of blocks that have b and the leading bits set.
pub record Run (bit : ℕ → ℕ → ℕ) (n B : ℕ) (bits run : List ℕ) : Type 0 where
  pub tables : Tables B (length bits) bits run
  pub counted : (b : ℕ) → last_bit bits ≤ b → b < B → get_or run (441 + b) 0 ≡ all_set bit n (leading bits ++ (b ∷ []))

-- the two bins of one bit, which `count` of n blocks have set; past them as before
pub record Single (n count : ℕ) (before after : List ℕ) : Type 0 where
  pub clear : get_or after 0 0 ≡ n - count
  pub set : get_or after 1 0 ≡ count
  pub rest : (w : ℕ) → 2 ≤ w → get_or after w 0 ≡ get_or before w 0

-- the four bins of two bits, of which `first` of n blocks have the first set, `second` the second and `count` both; past them as before
pub record Pair (n first second count : ℕ) (before after : List ℕ) : Type 0 where
  pub neither : get_or after 0 0 ≡ n - first - (second - count)
  pub one : get_or after 1 0 ≡ first - count
  pub other : get_or after 2 0 ≡ second - count
  pub both : get_or after 3 0 ≡ count
  pub rest : (w : ℕ) → 4 ≤ w → get_or after w 0 ≡ get_or before w 0
