-- Bytes as a recording's blocks, and how many of these so many words can hold.
use Rattle.std.specs.Prelude.{ℕ, ◌*◌, ◌/◌, min, Bool, List, length, take, drop}
use Rattle.counting.specs.Block.{block_bit}

-- the bytes of a block of B bits
abbrev pub block_bytes : ℕ → ℕ
block_bytes B = B / 8

-- S: the words of a row, one row for each bit of a block
abbrev pub stride : ℕ → ℕ → ℕ
stride B words = words / B

-- capacity in blocks: 64 to a word of a row, and never more than 16,777,216
abbrev pub capacity : ℕ → ℕ → ℕ
capacity B words = min (64 * stride B words) 16777216

-- capacity in bytes
abbrev pub capacity_bytes : ℕ → ℕ → ℕ
capacity_bytes B words = capacity B words * block_bytes B

-- n: the whole blocks among the bytes
abbrev pub blocks_in : ℕ → List ℕ → ℕ
blocks_in B held = length held / block_bytes B

-- bit b of block e, the B / 8 bytes from byte e × B / 8 on, in the bit order
unfoldable pub recorded_bit : ℕ → Bool → List ℕ → ℕ → ℕ → ℕ
recorded_bit B low held e b = block_bit low (take (block_bytes B) (drop (e * block_bytes B) held)) b
