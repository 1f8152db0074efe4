-- A block: its size, its bits and its bin.
use Rattle.std.specs.Prelude.{ℕ, ◌+◌, ◌-◌, ◌*◌, ◌/◌, ◌%◌, ◌^◌, Bool, false, cond, List, [], ◌∷◌, leb, eqb, get_or}

-- B, the block size in bits: a multiple of 8 from 8 to 4,096
unfoldable pub valid_size : ℕ → Bool
valid_size B = cond (eqb (B % 8) 0) (cond (leb 8 B) (leb B 4096) false) false

-- bit j of a number, bit 0 being least
abbrev pub bit_at : ℕ → ℕ → ℕ
bit_at w j = w / 2 ^ j % 2

-- which bit of a byte is number r of its 8, from 0 on, in the bit order: bit r where the low bit comes first, else bit 7 − r
unfoldable pub place_in : Bool → ℕ → ℕ
place_in low r = cond low r (7 - r)

-- bit b of a block: number b mod 8 of its byte floor(b / 8), in the bit order (`bit_value_in_block`)
unfoldable pub block_bit : Bool → List ℕ → ℕ → ℕ
block_bit low block b = bit_at (get_or block (b / 8) 0) (place_in low (b % 8))

-- the bin of a block whose bit b is `bit b`: the sum of 2 ^ i over the i whose bits[i] is 1 (`bits_block_eval`)
unfoldable pub bin_of : (ℕ → ℕ) → List ℕ → ℕ
bin_of bit [] = 0
bin_of bit (b ∷ bs) = bit b + 2 * bin_of bit bs
