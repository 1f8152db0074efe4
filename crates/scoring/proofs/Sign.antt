-- |z|, and what it keeps.
use mathlib.Core.Path.{◌≡◌, refl}
use Prim.Native.Nat.{zero, suc}
use mathlib.Core.Bool.{false, true≢false}
use lib.Dec.{T}
use lib.Ieee.{Float, nan, inf, fin, binary64, fits, is_nan, ne}
use Rattle.std.specs.Float.{float_with_sign}
use Rattle.scoring.specs.Score.{abs, Number}

-- what the code's test x != x tells
pub is_number : (x : Float) → ne x x ≡ false → Number x
unfolding ne is_nan
is_number nan e = absurd (true≢false e)
is_number (inf s) e = tt
is_number (fin s m e) h = tt

pub abs_is : (z : Float) → float_with_sign false z ≡ abs z
unfolding abs float_with_sign
abs_is nan = refl
abs_is (inf s) = refl
abs_is (fin s m e) = refl

pub abs_nan : abs nan ≡ nan
unfolding abs
abs_nan = refl

-- |z| is a number where z is, a double where z is, and its own |z|
pub abs_number : (z : Float) → Number z → Number (abs z)
unfolding abs is_nan
abs_number nan h = absurd h
abs_number (inf s) h = tt
abs_number (fin s m e) h = tt

pub abs_fits : (z : Float) → T (fits binary64 z) → T (fits binary64 (abs z))
unfolding abs fits
abs_fits nan h = tt
abs_fits (inf s) h = tt
abs_fits (fin s zero e) h = h
abs_fits (fin s (suc m) e) h = h

pub abs_again : (z : Float) → abs (abs z) ≡ abs z
unfolding abs
abs_again nan = refl
abs_again (inf s) = refl
abs_again (fin s m e) = refl
