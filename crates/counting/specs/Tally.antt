-- Words as lanes, 64 to a word, and words that are ANDed.
use Rattle.std.specs.Prelude.{ℕ, ◌/◌, ◌%◌, List, get_or}
use Rattle.std.specs.Int.Bits.{bit_and, bit_xor}
use Rattle.std.specs.Int.Count.{ones}
use Rattle.counting.specs.Block.{bit_at}

-- lane e of the words `word 0`, `word 1`, ..
unfoldable pub lane_of : (ℕ → ℕ) → ℕ → ℕ
lane_of word e = bit_at (word (e / 64)) (e % 64)

-- word t of a list
abbrev pub word_at : List ℕ → ℕ → ℕ
word_at acc t = get_or acc t 0

-- word t of some words ANDed with that of a row, flipped
unfoldable pub word_with : (ℕ → ℕ) → List ℕ → ℕ → ℕ → ℕ
word_with word row flip t = bit_and (word t) (bit_xor (get_or row t 0) flip)

-- the set lanes of word t
abbrev pub ones_in : (ℕ → ℕ) → ℕ → ℕ
ones_in word t = ones (word t)
