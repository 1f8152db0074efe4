-- Doubles by their values: a value that fits is one double, and the double of a bit pattern.
use mathlib.Core.Path.{◌≡◌, refl, sym, ap, ◌∙◌, subst}
use Prim.Native.Nat.{ℕ, suc, ◌+◌, ◌-◌, ◌*◌, ◌/◌, ◌%◌, ◌^◌, ◌≤◌, ◌<◌}
use native.Mathlib.Nat.{not-le_of_lt, mod-eq_of_lt, mul-div_cancel}
use native.Mathlib.Omega.{arith}
use mathlib.Core.Bool.{Bool, false, not, cond}
use lib.IntN.{ℤ}
use lib.Arith.{le→nltb}
use lib.Dec.{T, leb, eqb, leb→le, eqb→eq, not_T}
use lib.Ieee.{Float, nan, inf, fin, binary64, up, down, size, odd, of_fields, of_bits, to_bits, nan_bits, fits}
use lib.Ieee.Fits.{down_pos}
use lib.Ieee.Bits.{of_bits-to_bits, nan_bits_above, is_false, cond_no}
use lib.Ieee.Exact.{HasValue, odd_sign}

-- ---- n units, as a bit pattern
pattern : ℕ → ℕ
pattern n = let k = size n - 53 in 0 + k * 4503599627370496 + n / 2 ^ k

pub in_units_is : (m : ℕ) (e : ℤ) (a : ℕ) → m * up e * 2 ^ 1074 ≡ a * down e → m * up e * 2 ^ 1074 / down e ≡ a
in_units_is m e a h = ap (λ (x : ℕ). x / down e) h ∙ mul-div_cancel a (down_pos e)

to_bits_of : (x : Float) (a : ℕ) → HasValue x false a (2 ^ 1074) → to_bits binary64 x ≡ pattern a
unfolding to_bits pattern
to_bits_of nan a h = absurd h
to_bits_of (inf s) a h = absurd h
to_bits_of (fin s m e) a h =
    ap (λ (b : Bool). let n = m * up e * 2 ^ 1074 / down e in let k = size n - 53 in cond b 9223372036854775808 0 + k * 4503599627370496 + n / 2 ^ k) h.0
    ∙ ap (λ (n : ℕ). let k = size n - 53 in 0 + k * 4503599627370496 + n / 2 ^ k) (in_units_is m e a h.1)

pub value_unique : (x y : Float) (a : ℕ) → T (fits binary64 x) → T (fits binary64 y) → HasValue x false a (2 ^ 1074) → HasValue y false a (2 ^ 1074) → x ≡ y
value_unique x y a fx fy hx hy =
    sym (of_bits-to_bits binary64 x fx) ∙ ap (λ (n : ℕ). of_bits binary64 n) (to_bits_of x a hx ∙ sym (to_bits_of y a hy)) ∙ of_bits-to_bits binary64 y fy

-- ---- the double of a bit pattern
pub of_bits_is : (b : ℕ) → of_bits binary64 b ≡ of_fields binary64 (leb 9223372036854775808 b) (b % 9223372036854775808 / 4503599627370496) (b % 4503599627370496)
unfolding of_bits
of_bits_is b = refl

pub sign_clear : (b : ℕ) → b < 9223372036854775808 → of_bits binary64 b ≡ of_fields binary64 false (b / 4503599627370496) (b % 4503599627370496)
sign_clear b u =
    of_bits_is b
    ∙ ap (λ (s : Bool). of_fields binary64 s (b % 9223372036854775808 / 4503599627370496) (b % 4503599627370496))
    (is_false (leb 9223372036854775808 b) (not_T (leb 9223372036854775808 b) (λ (t : T (leb 9223372036854775808 b)). not-le_of_lt u (leb→le 9223372036854775808 b t))))
    ∙ ap (λ (x : ℕ). of_fields binary64 false (x / 4503599627370496) (b % 4503599627370496)) (mod-eq_of_lt u)

pub under_ones : (t x : ℕ) → suc x < 2047 → of_fields binary64 false (suc x) t ≡ odd 53 false (4503599627370496 + t) x 1074
unfolding of_fields
under_ones t x h =
    cond_no (eqb (suc x) 2047) (cond (eqb t 0) (inf false) nan) (odd 53 false (4503599627370496 + t) x 1074)
    (not_T (eqb (suc x) 2047) (λ (u : T (eqb (suc x) 2047)). differ (eqb→eq (suc x) 2047 u)))
  where
    differ : suc x ≡ 2047 → ⊥
    differ e = omega arith

pub at_zero : (t : ℕ) → of_fields binary64 false 0 t ≡ odd 53 false t 0 1074
unfolding of_fields
at_zero t = refl

-- g * 2 ^ 52 + q, for a q of 53 digits, is the pattern of q * 2 ^ g units
pub normal_value : (g q : ℕ) → 4503599627370496 ≤ q → q < 9007199254740992 → g < 2046 → HasValue (of_bits binary64 (g * 4503599627370496 + q)) false (q * 2 ^ g) (2 ^ 1074)
normal_value g q l u h =
    let b = g * 4503599627370496 + q in
    let small : b < 9223372036854775808 = omega arith in
    let field : b / 4503599627370496 ≡ suc g = omega arith in
    let rest : b % 4503599627370496 ≡ q - 4503599627370496 = omega arith in
    let again : 4503599627370496 + (q - 4503599627370496) ≡ q = omega arith in
    let less : suc g < 2047 = omega arith in
    let e : of_bits binary64 b ≡ odd 53 false q g 1074 =
    sign_clear b small
    ∙ ap (λ (x : ℕ). of_fields binary64 false x (b % 4503599627370496)) field
    ∙ ap (λ (x : ℕ). of_fields binary64 false (suc g) x) rest
    ∙ under_ones (q - 4503599627370496) g less
    ∙ ap (λ (x : ℕ). odd 53 false x g 1074) again in
    subst (λ (x : Float). HasValue x false (q * 2 ^ g) (2 ^ 1074)) (sym e) (odd_sign 53 false q g 1074)

-- a pattern below 2 ^ 52 is that of as many units
pub subnormal_value : (b : ℕ) → b < 4503599627370496 → HasValue (of_bits binary64 b) false (b * 2 ^ 0) (2 ^ 1074)
subnormal_value b u =
    let small : b < 9223372036854775808 = omega arith in
    let field : b / 4503599627370496 ≡ 0 = omega arith in
    let e : of_bits binary64 b ≡ odd 53 false b 0 1074 =
    sign_clear b small
    ∙ ap (λ (x : ℕ). of_fields binary64 false x (b % 4503599627370496)) field
    ∙ ap (λ (x : ℕ). of_fields binary64 false 0 x) (mod-eq_of_lt u)
    ∙ at_zero b in
    subst (λ (x : Float). HasValue x false (b * 2 ^ 0) (2 ^ 1074)) (sym e) (odd_sign 53 false b 0 1074)

-- a pattern up to +infinity's is no NaN's
pub no_nan : {b : ℕ} → b ≤ 9218868437227405312 → T (not (nan_bits binary64 b))
no_nan {b} h =
    let l : b % 9223372036854775808 ≤ 9218868437227405312 = omega arith in
    subst (λ (t : Bool). T (not t)) (sym (nan_bits_above binary64 b)) (le→nltb 9218868437227405312 (b % 9223372036854775808) l)
