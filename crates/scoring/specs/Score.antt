-- The score z, operation by operation.
use Rattle.std.specs.Prelude.{◌≡◌, false, not, ℕ, ◌^◌, ◌≤◌, ◌<◌, T, pos, Float}
use Rattle.std.specs.Float.{nan, inf, fin, binary64}
use Rattle.std.specs.Float.Ieee.{mul, sub, div, of_int, is_nan}
use Rattle.scoring.specs.Halves.{one, part}
use Rattle.scoring.specs.Root.{root}

-- the standard deviation of a count of n blocks at the share p: root(p × (1 − p) × n), products from the left
unfoldable pub deviation : ℕ → Float → Float
deviation n p = root (mul binary64 (mul binary64 p (sub binary64 one p)) (of_int binary64 (pos n)))

-- (c − p × n) / d
unfoldable pub z_over : ℕ → ℕ → Float → Float → Float
z_over n c p d = div binary64 (sub binary64 (of_int binary64 (pos c)) (mul binary64 p (of_int binary64 (pos n)))) d

-- z = (c − p × n) / root(p × (1 − p) × n)
unfoldable pub z_score : ℕ → ℕ → Float → Float
z_score n c p = z_over n c p (deviation n p)

-- |x|: its sign cleared
unfoldable pub abs : Float → Float
abs nan = nan
abs (inf s) = inf false
abs (fin s m e) = fin false m e

-- x is no NaN
abbrev pub Number : Float → Type 0
Number x = T (not (is_nan x))

-- Theorem: the score is a number at every share that a search tries, for n from 1 to 16,777,216, whatever c is.
abbrev pub ScoreIsNumber : Type 0
ScoreIsNumber = (i k n : ℕ) → 1 ≤ i → i < 2 ^ k → k ≤ 20 → 1 ≤ n → n ≤ 16777216 → (c : ℕ) → Number (z_score n c (part i k))

-- Theorem: that of an empty sample is NaN, which is above nothing: so an empty sample keeps the division and the z that a search starts from.
abbrev pub EmptyIsNan : Type 0
EmptyIsNan = (p : Float) → z_score 0 0 p ≡ nan
