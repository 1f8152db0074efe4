-- Bytes with their bits reversed: a recording with the low bit first is the recording of these with the high bit first.
use Rattle.std.specs.Prelude.{◌≡◌, ℕ, ◌-◌, ◌<◌, true, false, List, [], ◌∷◌, map}
use Rattle.counting.specs.Block.{bit_at, bin_of}
use Rattle.counting.specs.Recording.{recorded_bit}

-- a byte with its bits reversed: its bits 0, 1, .., 7 are the byte's bits 7, 6, .., 0
unfoldable pub reversed : ℕ → ℕ
reversed x = bin_of (bit_at x) (7 ∷ 6 ∷ 5 ∷ 4 ∷ 3 ∷ 2 ∷ 1 ∷ 0 ∷ [])

-- so each byte of a piece or of a recording
abbrev pub reversed_bytes : List ℕ → List ℕ
reversed_bytes bytes = map reversed bytes

-- Theorem: what a reversed byte is, and that every bit of every block with the low bit first is that of the reversed bytes with the high bit first.
pub record Reversal : Type 0 where
  pub bits : (x i : ℕ) → i < 8 → bit_at (reversed x) i ≡ bit_at x (7 - i)
  pub byte : (x : ℕ) → reversed x < 256
  pub recorded : (B : ℕ) (held : List ℕ) (e b : ℕ) → recorded_bit B true held e b ≡ recorded_bit B false (reversed_bytes held) e b
