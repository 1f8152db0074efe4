-- `root` by the bit pattern of its argument, case by case as the code tests it.
use mathlib.Core.Path.{◌≡◌, refl, sym, ap, ◌∙◌, subst}
use Prim.Native.Nat.{ℕ, zero, suc, ◌+◌, ◌-◌, ◌*◌, ◌/◌, ◌%◌, ◌^◌, ◌≤◌, ◌<◌}
use native.Mathlib.Nat.{lt_irrefl, zero-mul, mul-one, mul_assoc, mul-pos, pos_of_ne-zero}
use lib.Arith.{lt_of_le-ne}
use native.Mathlib.Omega.{arith}
use mathlib.Core.Bool.{Bool, true, false, not, cond, true≢false}
use lib.Dec.{T, leb, ltb, eqb, le→leb, nltb→le}
use lib.Pow.{pow_pos, pow-add}
use lib.Ieee.{Float, nan, inf, fin, binary64, up, down, odd, of_fields, of_bits, to_bits, fits, is_nan}
use lib.Ieee.Fits.{down_pos}
use lib.Ieee.Bits.{of_bits-to_bits, nan_bits_is, nan_bits_above, is_true}
use lib.Ieee.Exact.{HasValue, odd_sign}
use Rattle.scoring.specs.Units.{root_of}
use Rattle.scoring.specs.Root.{root}
use Rattle.scoring.specs.Score.{Number}
use Rattle.scoring.proofs.Shapes.{down_le}
use Rattle.scoring.proofs.Places.{root_at_is}
use Rattle.scoring.proofs.Doubles.{in_units_is, of_bits_is, normal_value, subnormal_value}

-- ---- NaN
pub nan_own : (x : Float) → is_nan x ≡ true → x ≡ root x
unfolding root is_nan
nan_own nan e = refl
nan_own (inf s) e = absurd (true≢false (sym e))
nan_own (fin s m k) e = absurd (true≢false (sym e))

-- ---- a double whose pattern is known
pub from_bits : (x : Float) (b : ℕ) → T (fits binary64 x) → to_bits binary64 x ≡ b → of_bits binary64 b ≡ x
from_bits x b F e = ap (λ (n : ℕ). of_bits binary64 n) (sym e) ∙ of_bits-to_bits binary64 x F

pub own : (x : Float) (b : ℕ) → T (fits binary64 x) → to_bits binary64 x ≡ b → of_bits binary64 b ≡ root (of_bits binary64 b) → x ≡ root x
own x b F e h = subst (λ (y : Float). y ≡ root y) (from_bits x b F e) h

pub zero_own : of_bits binary64 0 ≡ root (of_bits binary64 0)
unfolding root of_bits
zero_own = refl

pub minus_zero_own : of_bits binary64 9223372036854775808 ≡ root (of_bits binary64 9223372036854775808)
unfolding root of_bits
minus_zero_own = refl

pub inf_own : of_bits binary64 9218868437227405312 ≡ root (of_bits binary64 9218868437227405312)
unfolding root of_bits
inf_own = refl

-- ---- below zero
not_zero : (a d u c : ℕ) → 0 < a → 0 < d → 0 * u * c ≡ a * d → ⊥
not_zero a d u c A D h = lt_irrefl 0 (subst (λ (z : ℕ). 0 < z) (sym h ∙ ap (λ (z : ℕ). z * c) (zero-mul u) ∙ zero-mul c) (mul-pos A D))

root_negative : (x : Float) (a c : ℕ) → HasValue x true a c → 0 < a → root x ≡ nan
unfolding root
root_negative nan a c h A = refl
root_negative (inf s) a c h A = absurd h
root_negative (fin s zero e) a c h A = absurd (not_zero a (down e) (up e) c A (down_pos e) h.1)
root_negative (fin true (suc m) e) a c h A = refl
root_negative (fin false (suc m) e) a c h A = absurd (true≢false (sym h.0))

nan_nan : root nan ≡ nan
unfolding root
nan_nan = refl

minus_inf : root (inf true) ≡ nan
unfolding root
minus_inf = refl

fields_negative : (x t : ℕ) → (x ≡ 0 → 0 < t) → root (of_fields binary64 true x t) ≡ nan
unfolding of_fields
fields_negative zero t h = root_negative (odd 53 true t 0 1074) (t * 2 ^ 0) (2 ^ 1074) (odd_sign 53 true t 0 1074) (mul-pos (h refl) (pow_pos 0))
fields_negative (suc x) t h = go (eqb (suc x) 2047) (eqb t 0)
  where
    go : (a b : Bool) → root (cond a (cond b (inf true) nan) (odd 53 true (4503599627370496 + t) x 1074)) ≡ nan
    go true true = minus_inf
    go true false = nan_nan
    go false b = root_negative (odd 53 true (4503599627370496 + t) x 1074) ((4503599627370496 + t) * 2 ^ x) (2 ^ 1074) (odd_sign 53 true (4503599627370496 + t) x 1074) (mul-pos (omega arith) (pow_pos x))

pub negative : (x : Float) → T (fits binary64 x) → 9223372036854775808 < to_bits binary64 x → to_bits binary64 x < 2 ^ 64 → nan ≡ root x
negative x F h u =
    let b = to_bits binary64 x in
    sym (fields_negative (b % 9223372036854775808 / 4503599627370496) (b % 4503599627370496) (λ (z : b % 9223372036854775808 / 4503599627370496 ≡ 0). omega arith))
    ∙ ap (λ (s : Bool). root (of_fields binary64 s (b % 9223372036854775808 / 4503599627370496) (b % 4503599627370496))) (sym (is_true (leb 9223372036854775808 b) (le→leb 9223372036854775808 b (omega arith))))
    ∙ ap root (sym (of_bits_is b) ∙ from_bits x b F refl)

-- ---- above zero
pub root_positive : (x : Float) (a : ℕ) → T (fits binary64 x) → HasValue x false a (2 ^ 1074) → 0 < a → root x ≡ root_of a
unfolding root
root_positive nan a F h A = absurd h
root_positive (inf s) a F h A = absurd h
root_positive (fin s zero e) a F h A = absurd (not_zero a (down e) (up e) (2 ^ 1074) A (down_pos e) h.1)
root_positive (fin true (suc m) e) a F h A = absurd (true≢false h.0)
root_positive (fin false (suc m) e) a F h A = root_at_is (suc m) e (above m) F (down_le m e F) ∙ ap root_of (in_units_is (suc m) e a h.1)
  where
    above : (k : ℕ) → 1 ≤ suc k
    above k = omega arith

pub subnormal : (x : Float) → T (fits binary64 x) → (to_bits binary64 x ≡ 0 → ⊥) → to_bits binary64 x / 4503599627370496 ≡ 0 → root_of (to_bits binary64 x % 4503599627370496) ≡ root x
subnormal x F nz h =
    let b = to_bits binary64 x in
    let e : b % 4503599627370496 ≡ b = omega arith in
    ap root_of e
    ∙ sym (root_positive x b F
    (subst (λ (y : Float). HasValue y false b (2 ^ 1074)) (from_bits x b F refl) (subst (λ (z : ℕ). HasValue (of_bits binary64 b) false z (2 ^ 1074)) (mul-one b) (subnormal_value b (omega arith))))
    (pos_of_ne-zero nz))

-- the units of a normal double
abbrev pub normal_units : ℕ → ℕ
normal_units b = (b % 4503599627370496 + 4503599627370496) * 2 ^ (b / 4503599627370496 - 1)

pub normal : (x : Float) → T (fits binary64 x) → (to_bits binary64 x / 4503599627370496 ≡ 0 → ⊥) → to_bits binary64 x < 9218868437227405312 → root_of (normal_units (to_bits binary64 x)) ≡ root x
normal x F nz u =
    let b = to_bits binary64 x in
    let p : 0 < b / 4503599627370496 = pos_of_ne-zero nz in
    let g = b / 4503599627370496 - 1 in
    let q = b % 4503599627370496 + 4503599627370496 in
    let e : g * 4503599627370496 + q ≡ b = omega arith in
    sym (root_positive x (normal_units b) F (subst (λ (y : Float). HasValue y false (q * 2 ^ g) (2 ^ 1074)) (from_bits x (g * 4503599627370496 + q) F (sym e)) (normal_value g q (omega arith) (omega arith) (omega arith))) (mul-pos (omega arith) (pow_pos g)))

pub normal_scaled : (b : ℕ) → (b / 4503599627370496 ≡ 0 → ⊥) → normal_units b * 2 ^ 1022 ≡ (b % 4503599627370496 + 4503599627370496) * 2 ^ (b / 4503599627370496 + 1021)
normal_scaled b nz =
    let f = b / 4503599627370496 in
    mul_assoc (b % 4503599627370496 + 4503599627370496) (2 ^ (f - 1)) (2 ^ 1022)
    ∙ ap (λ (z : ℕ). (b % 4503599627370496 + 4503599627370496) * z) (sym (pow-add 2 (f - 1) 1022) ∙ ap (λ (z : ℕ). 2 ^ z) (up_to f (pos_of_ne-zero nz)))
  where
    up_to : (f : ℕ) → 0 < f → f - 1 + 1022 ≡ f + 1021
    up_to f h = omega arith

-- no NaN, no infinity
pub below_inf : (x : Float) → T (fits binary64 x) → Number x → to_bits binary64 x ≤ 9223372036854775808 → (to_bits binary64 x ≡ 9223372036854775808 → ⊥) → (to_bits binary64 x ≡ 9218868437227405312 → ⊥) → to_bits binary64 x < 9218868437227405312
below_inf x F n u a b =
    let i = to_bits binary64 x in
    let t : T (not (ltb 9218868437227405312 (i % 9223372036854775808))) = subst (λ (z : Bool). T (not z)) (ap is_nan (sym (from_bits x i F refl)) ∙ sym (nan_bits_is binary64 i) ∙ nan_bits_above binary64 i) n in
    let l : i % 9223372036854775808 ≤ 9218868437227405312 = nltb→le 9218868437227405312 (i % 9223372036854775808) t in
    let u' : i < 9223372036854775808 = lt_of_le-ne u a in
    let l' : i ≤ 9218868437227405312 = omega arith in
    lt_of_le-ne l' b
