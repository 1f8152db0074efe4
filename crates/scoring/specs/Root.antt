-- The root of a double: how it is worked out, and what it is to be.
use Rattle.std.specs.Prelude.{◌≡◌, ℕ, zero, suc, ◌+◌, ◌-◌, ◌*◌, ◌/◌, ◌%◌, ◌^◌, ◌<◌, true, false, cond, T, eqb, ℤ, pos, negsuc, Float}
use Rattle.std.specs.Float.{nan, inf, fin, binary64}
use Rattle.std.specs.Float.Ieee.{round, up, down, fits}
use Rattle.scoring.specs.Units.{in_units, plain, isqrt}

-- e is 2 * half_of e + rest_of e
abbrev pub half_of : ℤ → ℤ
half_of (pos k) = pos (k / 2)
half_of (negsuc k) = negsuc (k / 2)

abbrev pub rest_of : ℤ → ℕ
rest_of (pos k) = k % 2
rest_of (negsuc k) = 1 - k % 2

-- The double nearest the root of m * 2 ^ e, which is the root of m * 2 ^ rest_of e times 2 ^ half_of e. s is that root to 55 binary places, cut. A 1 in one place more, put there for
-- any rest, rounds as the rest does, since no double and no point halfway between two doubles has so many places.
unfoldable pub root_at : ℕ → ℤ → Float
root_at m e =
    let n = m * 2 ^ (rest_of e + 110) in
    let s = isqrt n in
    round binary64 false ((2 * s + cond (eqb (s * s) n) 0 1) * up (half_of e)) (2 ^ 56 * down (half_of e))

-- The root of any double: a zero, +infinity and NaN are their own, and what is below zero has NaN.
unfoldable pub root : Float → Float
root nan = nan
root (inf s) = cond s nan (inf false)
root (fin s zero e) = fin s zero e
root (fin true (suc m) e) = nan
root (fin false (suc m) e) = root_at (suc m) e

-- ---- what it is to be, by squares of whole numbers alone

-- r is nearer to the root of x than any other double y: the point halfway between y and r is on y's side of it. (y + r) / 2 is below the root where (y + r) ^ 2 is below 4 * x,
-- which in units is X * 2 ^ 1076.
pub record IsRoot (x r : Float) : Type 0 where
  pub double : T (plain r)
  pub below : (y : Float) → T (plain y) → in_units y < in_units r → (in_units y + in_units r) * (in_units y + in_units r) < in_units x * 2 ^ 1076
  pub above : (y : Float) → T (plain y) → in_units r < in_units y → in_units x * 2 ^ 1076 < (in_units y + in_units r) * (in_units y + in_units r)

-- r is what IEEE 754 has for the root of x, x being any double
abbrev pub RightRoot : Float → Float → Type 0
RightRoot nan r = r ≡ nan
RightRoot (inf true) r = r ≡ nan
RightRoot (inf false) r = r ≡ inf false
RightRoot (fin s zero e) r = r ≡ fin s zero e
RightRoot (fin true (suc m) e) r = r ≡ nan
RightRoot (fin false (suc m) e) r = IsRoot (fin false (suc m) e) r

-- Theorem: `root` is right at every double.
abbrev pub RootIsRight : Type 0
RootIsRight = (x : Float) → T (fits binary64 x) → RightRoot x (root x)

-- Theorem: and nothing else is.
abbrev pub RootIsAlone : Type 0
RootIsAlone = (x r : Float) → T (fits binary64 x) → RightRoot x r → r ≡ root x
