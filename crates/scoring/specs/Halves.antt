-- The powers of one half, and the shares made of them.
use Rattle.std.specs.Prelude.{◌≡◌, false, List, [], ◌∷◌, ℕ, zero, suc, ◌^◌, ◌≤◌, ◌<◌, pos, negsuc, length, get_or, Float}
use Rattle.std.specs.Float.{nan, fin, binary64}
use Rattle.std.specs.Float.Ieee.{round, mul}
use Rattle.std.specs.Float.Ieee.Exact.{HasValue}

abbrev pub one : Float
one = fin false 1 (pos 0)

abbrev pub half : Float
half = fin false 1 (negsuc 0)

-- 2 ^ -k: 1, and then half of the one before
unfoldable pub half_power : ℕ → Float
half_power zero = one
half_power (suc k) = mul binary64 (half_power k) half

-- The halving rule of a table: entry 0 is 1, entry k + 1 is half of entry k
pub record Halving (table : List Float) : Type 0 where
  pub first : get_or table 0 nan ≡ one
  pub next : (k : ℕ) → suc k < length table → get_or table (suc k) nan ≡ mul binary64 (get_or table k nan) half

-- the table of `src/halves.rt`: 2 ^ 0, 2 ^ -1, .., 2 ^ -20
unfoldable pub half_powers : List Float
half_powers =
    one
    ∷ fin false 1 (negsuc 0) ∷ fin false 1 (negsuc 1) ∷ fin false 1 (negsuc 2) ∷ fin false 1 (negsuc 3) ∷ fin false 1 (negsuc 4)
    ∷ fin false 1 (negsuc 5) ∷ fin false 1 (negsuc 6) ∷ fin false 1 (negsuc 7) ∷ fin false 1 (negsuc 8) ∷ fin false 1 (negsuc 9)
    ∷ fin false 1 (negsuc 10) ∷ fin false 1 (negsuc 11) ∷ fin false 1 (negsuc 12) ∷ fin false 1 (negsuc 13) ∷ fin false 1 (negsuc 14)
    ∷ fin false 1 (negsuc 15) ∷ fin false 1 (negsuc 16) ∷ fin false 1 (negsuc 17) ∷ fin false 1 (negsuc 18) ∷ fin false 1 (negsuc 19)
    ∷ []

-- Theorem: the table has that rule.
abbrev pub TableHalves : Type 0
TableHalves = Halving half_powers

-- i * 2 ^ -k, as a double
unfoldable pub part : ℕ → ℕ → Float
part i k = round binary64 false i (2 ^ k)

-- Theorem: that is the fraction exactly, for an i of 53 digits.
abbrev pub PartIsExact : Type 0
PartIsExact = (i k : ℕ) → i < 2 ^ 53 → k ≤ 1074 → HasValue (part i k) false i (2 ^ k)
