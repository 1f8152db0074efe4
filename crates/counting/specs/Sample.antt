-- A sample is n blocks; `bit e b` is bit b of its block e. Words, a recording and a raw slice are each a sample.
use Rattle.std.specs.Prelude.{◌≡◌, ℕ, zero, suc, ◌+◌, ◌-◌, ◌^◌, ◌<◌, cond, List, [], ◌∷◌, ◌++◌, eqb, length, get_or}
use Rattle.counting.specs.Block.{bin_of}

-- the sample from block `base` on
abbrev pub onward : ℕ → (ℕ → ℕ → ℕ) → ℕ → ℕ → ℕ
onward base bit e = bit (base + e)

-- 1 where two numbers are equal, else 0
abbrev pub same : ℕ → ℕ → ℕ
same a b = cond (eqb a b) 1 0

-- how many of the sample's n blocks are in bin v of the subset
unfoldable pub count_in : (ℕ → ℕ → ℕ) → ℕ → List ℕ → ℕ → ℕ
count_in bit zero bits v = 0
count_in bit (suc n) bits v = count_in bit n bits v + same (bin_of (bit n) bits) v

-- how many of the sample's n blocks have all the bits set
abbrev pub all_set : (ℕ → ℕ → ℕ) → ℕ → List ℕ → ℕ
all_set bit n bits = count_in bit n bits (2 ^ length bits - 1)

-- f 0, f 1, .. up to f (m - 1)
unfoldable pub list_of {ℓ} : {A : Type ℓ} → ℕ → (ℕ → A) → List A
list_of zero f = []
list_of (suc m) f = list_of m f ++ (f m ∷ [])

-- the counts of the subset's 2 ^ k bins
unfoldable pub counts_of : (ℕ → ℕ → ℕ) → ℕ → List ℕ → List ℕ
counts_of bit n bits = list_of (2 ^ length bits) (count_in bit n bits)

-- f 0 + f 1 + .. + f (m - 1)
unfoldable pub sum_to : (ℕ → ℕ) → ℕ → ℕ
sum_to f zero = zero
sum_to f (suc m) = sum_to f m + f m

-- the sum of a list
unfoldable pub total : List ℕ → ℕ
total [] = 0
total (a ∷ rest) = a + total rest

-- each of the bits is below B
abbrev pub Below : ℕ → List ℕ → Type 0
Below B bits = (i : ℕ) → i < length bits → get_or bits i 0 < B

-- two samples agree on their first n blocks of B bits
abbrev pub AgreeBelow : ℕ → ℕ → (ℕ → ℕ → ℕ) → (ℕ → ℕ → ℕ) → Type 0
AgreeBelow n B bit bit' = (e b : ℕ) → e < n → b < B → bit e b ≡ bit' e b

-- every bit of the sample is 0 or 1
abbrev pub Bits : (ℕ → ℕ → ℕ) → Type 0
Bits bit = (e b : ℕ) → bit e b < 2

-- Theorem: samples that agree below n and B have the same counts.
abbrev pub SameCounts : Type 0
SameCounts =
    (n B : ℕ) (bit bit' : ℕ → ℕ → ℕ) → AgreeBelow n B bit bit' → (bits : List ℕ) → Below B bits → counts_of bit n bits ≡ counts_of bit' n bits

-- Theorem: the counts of a subset's 2 ^ k bins add up to n.
abbrev pub CountsAddUp : Type 0
CountsAddUp = (n : ℕ) (bit : ℕ → ℕ → ℕ) → Bits bit → (bits : List ℕ) → total (counts_of bit n bits) ≡ n
