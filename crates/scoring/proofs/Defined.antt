-- Where the score is a number: for n from 1 to 2 ^ 24 and a share i / 2 ^ k with 1 ≤ i < 2 ^ k and k ≤ 20, whatever c is. Of an empty sample it is NaN.
use mathlib.Core.Path.{◌≡◌, refl, sym, ap, ◌∙◌, subst}
use Prim.Native.Nat.{ℕ, zero, suc, ◌+◌, ◌-◌, ◌*◌, ◌^◌, ◌≤◌, ◌<◌}
use native.Mathlib.Nat.{le_trans, le_of_eq, le_of_lt, mul-one, one-mul, mul-zero, zero-mul, mul-pos, mul-le-mul, mul-le-mul_right, mul-lt-mul_of_pos_right}
use native.Mathlib.Omega.{arith}
use mathlib.Core.Bool.{Bool, true, false, not, ◌&&◌, cond, beq}
use lib.IntN.{pos}
use lib.Dec.{T, ltb, eqb, lit<, lit≤, eqb-suc-zero}
use lib.Pow.{pow_pos, pow_mono}
use lib.Ieee.{Float, nan, inf, fin, binary64, up, down, round, sum, sub, mul, div, of_int, fits, is_nan, units, odd, unlike}
use lib.Ieee.Fits.{down_pos, round_is, mul-fits}
use lib.Ieee.Exact.{HasValue}
use lib.Ieee.Order.{round_mono}
use lib.Ieee.Scale.{round_same}
use lib.Ieee.Positive.{positive, positive_of_value, value_pos, between, mul_at}
use Rattle.scoring.specs.Halves.{one, part}
use Rattle.scoring.specs.Units.{in_units, plain, root_of}
use Rattle.scoring.specs.Root.{root}
use Rattle.scoring.specs.Score.{deviation, z_over, z_score, abs, Number, ScoreIsNumber, EmptyIsNan}
use Rattle.scoring.proofs.Rooting.{twice_root, root_of_is, root_ge, root_lt}
use Rattle.scoring.proofs.Shapes.{shape, in_format}
use Rattle.scoring.proofs.Patterns.{root_positive}
use Rattle.scoring.proofs.Sign.{abs_number}
use Rattle.scoring.proofs.Parts.{exact, spread_least, spread_most, spread_value, spread_positive, n_value, n_positive, expected_value}

-- ---- `round` makes no NaN, and an operation makes one only from what is none there
odd_number : (d : ℕ) (s : Bool) (q k l : ℕ) → Number (odd d s q k l)
unfolding odd is_nan
odd_number d s zero k l = tt
odd_number d s (suc q) k l = tt

inf_number : (s : Bool) → Number (inf s)
unfolding is_nan
inf_number s = tt

cond_number : (b : Bool) (x y : Float) → Number x → Number y → Number (cond b x y)
cond_number true x y h k = h
cond_number false x y h k = k

units_number : (s : Bool) (q k : ℕ) → Number (units binary64 s q k)
unfolding units
units_number s q k = cond_number (ltb (q * 2 ^ k) (2 ^ 2098)) (odd 54 s q k 1074) (inf s) (odd_number 54 s q k 1074) (inf_number s)

pub round_number : (s : Bool) (a b : ℕ) → Number (round binary64 s a b)
round_number s a b = subst Number (sym (round_is binary64 s a b)) (units_number s _ _)

sum_number : (s : Bool) (a : ℕ) (t : Bool) (b c : ℕ) → Number (sum binary64 s a t b c)
unfolding sum
sum_number s a t b c =
    cond_number (beq s t) (round binary64 s (a + b) c) (cond (ltb a b) (round binary64 t (b - a) c) (round binary64 (s && ltb b a) (a - b) c)) (round_number s (a + b) c)
    (cond_number (ltb a b) (round binary64 t (b - a) c) (round binary64 (s && ltb b a) (a - b) c) (round_number t (b - a) c) (round_number (s && ltb b a) (a - b) c))

-- a number less a finite y is one
sub_number : (x y : Float) (s : Bool) (a c : ℕ) → Number x → HasValue y s a c → Number (sub binary64 x y)
unfolding sub is_nan
sub_number nan y s a c k h = absurd k
sub_number (inf t) nan s a c k h = absurd h
sub_number (inf t) (inf u) s a c k h = absurd h
sub_number (inf t) (fin u n d) s a c k h = tt
sub_number (fin t m e) nan s a c k h = absurd h
sub_number (fin t m e) (inf u) s a c k h = absurd h
sub_number (fin t m e) (fin u n d) s a c k h = sum_number t (m * up e * down d) (not u) (n * up d * down e) (down e * down d)

-- a number over a finite y above zero is one
div_number : (x y : Float) → Number x → T (positive y) → Number (div binary64 x y)
unfolding div is_nan
div_number nan y k p = absurd k
div_number (inf s) nan k p = absurd p
div_number (inf s) (inf t) k p = absurd p
div_number (inf s) (fin t n d) k p = tt
div_number (fin s m e) nan k p = absurd p
div_number (fin s m e) (inf t) k p = absurd p
div_number (fin s m e) (fin true n d) k p = absurd p
div_number (fin s m e) (fin false zero d) k p = absurd p
div_number (fin s m e) (fin false (suc n) d) k p =
    subst (λ (b : Bool). Number (cond b (cond (eqb m 0) nan (inf (unlike s false))) (round binary64 (unlike s false) (m * up e * down d) (suc n * up d * down e)))) (sym (eqb-suc-zero n))
    (round_number (unlike s false) (m * up e * down d) (suc n * up d * down e))

-- ---- the root of a positive double is a positive double
units_above_zero : (X : ℕ) → 1 ≤ X → X < 2 ^ 2098 → T (positive (root_of X))
units_above_zero X h u =
    let n = X * 2 ^ 1076 in
    let low : 2 ^ 538 * 2 ^ 538 ≤ n = le_trans (le_of_eq (sym (one-mul (2 ^ 1076)))) (mul-le-mul_right (2 ^ 1076) h) in
    let high : n < 2 ^ 1587 * 2 ^ 1587 = mul-lt-mul_of_pos_right u (pow_pos 1076) in
    let a : 2 ^ 539 ≤ twice_root n = root_ge (2 ^ 538) n low in
    let b : twice_root n < 2 ^ 1588 = root_lt (2 ^ 1587) n high in
    subst (λ (z : Float). T (positive z)) (sym (root_of_is X))
    (between (round binary64 false 1 (2 ^ 537)) (round binary64 false (twice_root n) (2 ^ 1076)) (round binary64 false (2 ^ 512) 1)
    (positive_of_value (round binary64 false 1 (2 ^ 537)) 1 (2 ^ 537) (exact 1 537 (lit< tt) (lit≤ tt)) (lit< tt))
    (unfold round in tt)
    (round_mono binary64 1 (2 ^ 537) (twice_root n) (2 ^ 1076) (pow_pos 537) (pow_pos 1076) (le_trans (le_of_eq (one-mul (2 ^ 1076))) (mul-le-mul_right (2 ^ 537) a)))
    (round_mono binary64 (twice_root n) (2 ^ 1076) (2 ^ 512) 1 (pow_pos 1076) (lit< tt) (le_trans (le_of_eq (mul-one (twice_root n))) (le_of_lt b))))

plain_of_positive : (x : Float) → T (positive x) → T (fits binary64 x) → T (plain x)
plain_of_positive nan p F = absurd p
plain_of_positive (inf s) p F = absurd p
plain_of_positive (fin true m e) p F = absurd p
plain_of_positive (fin false m e) p F = F

pub root_above_zero : (x : Float) → T (positive x) → T (fits binary64 x) → T (positive (root x))
root_above_zero x p F =
    let q = plain_of_positive x p F in
    let v = (shape x q).4 in
    let P : 0 < in_units x = value_pos x (in_units x) (2 ^ 1074) p (pow_pos 1074) v in
    subst (λ (z : Float). T (positive z)) (sym (root_positive x (in_units x) F v P)) (units_above_zero (in_units x) P (in_format x q))

-- ---- the score
module _ (i k n : ℕ) (I : 1 ≤ i) (H : i < 2 ^ k) (K : k ≤ 20) (N : 1 ≤ n) (M : n ≤ 2 ^ 24) where
  abbrev spread : Float
  spread = mul binary64 (part i k) (sub binary64 one (part i k))

  abbrev variance : Float
  variance = mul binary64 spread (of_int binary64 (pos n))

  variance_positive : T (positive variance)
  variance_positive =
      let b = i * (2 ^ k - i) in
      let least = spread_least i k n I H K N M in
      let most = spread_most i k n I H K N M in
      subst (λ (z : Float). T (positive z))
      (sym (mul_at binary64 spread (of_int binary64 (pos n)) b (2 ^ (k + k)) n 1 (spread_positive i k n I H K N M) (n_positive i k n I H K N M) (pow_pos (k + k)) (lit< tt) (spread_value i k n I H K N M) (n_value i k n I H K N M)))
      (between (round binary64 false 1 (2 ^ 40)) (round binary64 false (b * n) (2 ^ (k + k) * 1)) (round binary64 false (2 ^ 64) 1)
      (positive_of_value (round binary64 false 1 (2 ^ 40)) 1 (2 ^ 40) (exact 1 40 (lit< tt) (lit≤ tt)) (lit< tt))
      (unfold round in tt)
      (round_mono binary64 1 (2 ^ 40) (b * n) (2 ^ (k + k) * 1) (pow_pos 40) (mul-pos (pow_pos (k + k)) (lit< tt))
      (mul-le-mul (mul-pos least N) (le_trans (le_of_eq (mul-one (2 ^ (k + k)))) (pow_mono {j = 40} (omega (arith, K))))))
      (round_mono binary64 (b * n) (2 ^ (k + k) * 1) (2 ^ 64) 1 (mul-pos (pow_pos (k + k)) (lit< tt)) (lit< tt)
      (mul-le-mul (mul-le-mul most M) (mul-pos (pow_pos (k + k)) (lit< tt)))))

  pub deviation_positive : T (positive (deviation n (part i k)))
  unfolding deviation
  deviation_positive = root_above_zero variance variance_positive (mul-fits binary64 spread (of_int binary64 (pos n)))

  score_number : (c : ℕ) → Number (z_score n c (part i k))
  unfolding z_score z_over of_int
  score_number c =
      div_number (sub binary64 (round binary64 false c 1) (mul binary64 (part i k) (of_int binary64 (pos n)))) (deviation n (part i k))
      (sub_number (round binary64 false c 1) (mul binary64 (part i k) (of_int binary64 (pos n))) false (i * n) (2 ^ k) (round_number false c 1) (expected_value i k n I H K N M))
      deviation_positive

pub score_is_number : ScoreIsNumber
score_is_number = score_number

-- and so is its size
pub size_is_number : (i k n : ℕ) → 1 ≤ i → i < 2 ^ k → k ≤ 20 → 1 ≤ n → n ≤ 16777216 → (c : ℕ) → Number (abs (z_score n c (part i k)))
size_is_number i k n I H K N M c = abs_number (z_score n c (part i k)) (score_is_number i k n I H K N M c)

-- ---- an empty sample: each of its products with 0 is a zero or NaN, and a zero over a zero is NaN
abbrev Vanishes : Float → Type 0
Vanishes nan = Unit {0}
Vanishes (inf s) = ⊥
Vanishes (fin s m e) = m ≡ 0

zero_over_one : (s : Bool) → Vanishes (round binary64 s 0 1)
unfolding round
zero_over_one true = refl
zero_over_one false = refl

round_vanishes : (s : Bool) (a b : ℕ) → 0 < b → a ≡ 0 → Vanishes (round binary64 s a b)
round_vanishes s a b B h = subst Vanishes (round_same binary64 s 0 1 a b (lit< tt) B (zero-mul b ∙ sym (ap (λ (z : ℕ). z * 1) h))) (zero_over_one s)

cond_vanishes : (b : Bool) (x y : Float) → Vanishes x → Vanishes y → Vanishes (cond b x y)
cond_vanishes true x y h k = h
cond_vanishes false x y h k = k

sum_vanishes : (s : Bool) (a : ℕ) (t : Bool) (b c : ℕ) → 0 < c → a ≡ 0 → b ≡ 0 → Vanishes (sum binary64 s a t b c)
unfolding sum
sum_vanishes s a t b c C h k =
    cond_vanishes (beq s t) (round binary64 s (a + b) c) (cond (ltb a b) (round binary64 t (b - a) c) (round binary64 (s && ltb b a) (a - b) c)) (round_vanishes s (a + b) c C (omega arith))
    (cond_vanishes (ltb a b) (round binary64 t (b - a) c) (round binary64 (s && ltb b a) (a - b) c) (round_vanishes t (b - a) c C (omega arith)) (round_vanishes (s && ltb b a) (a - b) c C (omega arith)))

none : Float
none = fin false 0 (pos 0)

none_is : of_int binary64 (pos 0) ≡ none
unfolding none of_int round
none_is = refl

mul_none : (x : Float) → Vanishes (mul binary64 x none)
unfolding mul none
mul_none nan = tt
mul_none (inf s) = tt
mul_none (fin s m e) = round_vanishes (unlike s false) (m * up e * (0 * 1)) (down e * 1) (mul-pos (down_pos e) (lit< tt)) (mul-zero (m * up e))

none_less : (y : Float) → Vanishes y → Vanishes (sub binary64 none y)
unfolding sub none
none_less nan h = tt
none_less (inf s) h = absurd h
none_less (fin s m e) h =
    sum_vanishes false (0 * 1 * down e) (not s) (m * up e * 1) (1 * down e) (mul-pos {m = 1} (lit< tt) (down_pos e)) (zero-mul (down e))
    (ap (λ (z : ℕ). z * up e * 1) h ∙ ap (λ (z : ℕ). z * 1) (zero-mul (up e)))

root_vanishes : (x : Float) → Vanishes x → Vanishes (root x)
unfolding root
root_vanishes nan h = tt
root_vanishes (inf s) h = absurd h
root_vanishes (fin s zero e) h = refl
root_vanishes (fin s (suc m) e) h = absurd (differ m h)
  where
    differ : (a : ℕ) → suc a ≡ 0 → ⊥
    differ a k = omega arith

div_vanished : (x y : Float) → Vanishes x → Vanishes y → div binary64 x y ≡ nan
unfolding div
div_vanished nan y h k = refl
div_vanished (inf s) y h k = absurd h
div_vanished (fin s m e) nan h k = refl
div_vanished (fin s m e) (inf t) h k = absurd k
div_vanished (fin s m e) (fin t n d) h k = rw (h, k) refl

-- no block, and so none counted: NaN, at every p
pub empty_is_nan : EmptyIsNan
unfolding z_score z_over deviation
empty_is_nan p =
    rw none_is
    (div_vanished (sub binary64 none (mul binary64 p none)) (root (mul binary64 (mul binary64 p (sub binary64 one p)) none)) (none_less (mul binary64 p none) (mul_none p))
    (root_vanishes (mul binary64 (mul binary64 p (sub binary64 one p)) none) (mul_none (mul binary64 p (sub binary64 one p)))))
