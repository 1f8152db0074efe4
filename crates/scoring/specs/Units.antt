-- Doubles as whole numbers of units of 2 ^ -1074, the least positive double, and the root in those units.
use Rattle.std.specs.Prelude.{ℕ, zero, suc, ◌+◌, ◌*◌, ◌/◌, ◌^◌, Bool, false, not, cond, ◌&&◌, leb, eqb, Float}
use Rattle.std.specs.Float.{nan, inf, fin, binary64}
use Rattle.std.specs.Float.Ieee.{up, down, round, size, fits}

-- a finite value's magnitude in units, a whole number for every double
abbrev pub in_units : Float → ℕ
in_units nan = 0
in_units (inf s) = 0
in_units (fin s m e) = m * up e * 2 ^ 1074 / down e

-- a double that is finite and has no minus sign
abbrev pub plain : Float → Bool
plain nan = false
plain (inf s) = false
plain (fin s m e) = not s && fits binary64 (fin s m e)

-- the whole part of the root of n, by d more binary digits from the top: s is what the digits before came to
unfoldable pub isqrt_from : ℕ → ℕ → ℕ → ℕ
isqrt_from zero n s = s
isqrt_from (suc d) n s = let t = s + 2 ^ d in let r = cond (leb (t * t) n) t s in isqrt_from d n r

-- the whole part of the root of n
unfoldable pub isqrt : ℕ → ℕ
isqrt n = isqrt_from (suc (size n / 2)) n 0

-- The root of X units: the double that `root` gives (`proofs/Places.antt`), in the form in which the code is proved. s is its whole part in halves of a unit.
-- Doubles and the points halfway between two of them are whole numbers of halves, so a quarter of a unit, put there for any rest, rounds as the rest does.
unfoldable pub root_of : ℕ → Float
root_of X = let n = X * 2 ^ 1076 in let s = isqrt n in round binary64 false (2 * s + cond (eqb (s * s) n) 0 1) (2 ^ 1076)
