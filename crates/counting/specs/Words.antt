-- The sampler's words: bit b of block e lies at bit e mod 64 of word b × S + floor(e / 64).
use Rattle.std.specs.Prelude.{ℕ, ◌+◌, ◌*◌, ◌/◌, ◌%◌, List, get_or}
use Rattle.counting.specs.Block.{bit_at}

-- bit b of block e as the words have it
unfoldable pub stored_bit : ℕ → List ℕ → ℕ → ℕ → ℕ
stored_bit S ws e b = bit_at (get_or ws (b * S + e / 64) 0) (e % 64)
