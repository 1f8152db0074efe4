-- The values of the share p = i / 2 ^ k, of 1 - p, p * (1 - p) and p * n: each is the exact fraction, for k up to 20 and n up to 2 ^ 24.
use mathlib.Core.Path.{◌≡◌, refl, sym, ap, ◌∙◌, subst}
use Prim.Native.Nat.{ℕ, zero, suc, ◌+◌, ◌-◌, ◌*◌, ◌^◌, ◌≤◌, ◌<◌}
use native.Mathlib.Nat.{le_trans, le_of_eq, le_of_lt, lt_of_lt_of_le, lt_of_le_of_lt, not-le_of_lt, mul-one, one-mul, zero-mul, mul_comm, mul_assoc, mul_right_comm, mul-sub, mul-pos, mul-le-mul, mul-le-mul_right, le_of_mul-le-mul_right, le_of_suc-le, pow-suc}
use native.Mathlib.Omega.{arith}
use mathlib.Core.Bool.{Bool, true, false, cond, true≢false}
use lib.IntN.{pos}
use lib.Dec.{T, ltb, ltb→lt, lit<, lit≤}
use lib.Pow.{pow-add, pow_pos, pow_mono, shl_lt}
use lib.Ieee.{Float, nan, inf, fin, binary64, up, down, round, sum, sub, mul, of_int}
use lib.Ieee.Digits.{back}
use lib.Ieee.Fits.{down_pos}
use lib.Ieee.Back.{round_whole}
use lib.Ieee.Exact.{HasValue, round_exact}
use lib.Ieee.Scale.{round_same}
use lib.Ieee.Positive.{positive, positive_of_value, mul_at}
use Rattle.scoring.specs.Halves.{one, half, half_power, part, PartIsExact}

-- ---- a / 2 ^ k is exact for an a of 53 digits
pub exact : (a k : ℕ) → a < 2 ^ 53 → k ≤ 1074 → HasValue (round binary64 false a (2 ^ k)) false a (2 ^ k)
exact a k h l =
    round_exact binary64 false a (2 ^ k) a (1074 - k) (pow_pos k) h (lt_of_lt_of_le (shl_lt 53 (1074 - k) h) (pow_mono {j = 2098} (room k)))
    (ap (λ (z : ℕ). a * 2 ^ z) (sym (back 1074 k l)) ∙ ap (λ (z : ℕ). a * z) (pow-add 2 (1074 - k) k) ∙ sym (mul_assoc a (2 ^ (1074 - k)) (2 ^ k)))
  where
    room : (k : ℕ) → 53 + (1074 - k) ≤ 2098
    room k = omega arith

pub part_is_exact : PartIsExact
unfolding part
part_is_exact = exact

-- ---- the share by the table's power
pub half_power_value : (k : ℕ) → k ≤ 1074 → HasValue (half_power k) false 1 (2 ^ k)
unfolding half_power
half_power_value zero h = (refl, refl)
half_power_value (suc k) h =
    let v = half_power_value k (le_of_suc-le h) in
    subst (λ (z : Float). HasValue z false 1 (2 ^ suc k))
    (ap (λ (z : ℕ). round binary64 false 1 z) (pow-suc 2 k)
    ∙ sym (mul_at binary64 (half_power k) half 1 (2 ^ k) 1 2 (positive_of_value (half_power k) 1 (2 ^ k) v (lit< tt)) tt (pow_pos k) (lit< tt) v (refl, refl)))
    (exact 1 (suc k) (lit< tt) h)

-- zero times what has a value is zero
zero_times : (y : Float) (a c : ℕ) → 0 < c → HasValue y false a c → mul binary64 (round binary64 false 0 1) y ≡ round binary64 false 0 c
unfolding mul round
zero_times nan a c C h = absurd h
zero_times (inf s) a c C h = absurd h
zero_times (fin true n d) a c C h = absurd (true≢false h.0)
zero_times (fin false n d) a c C h =
    round_same binary64 false (0 * up (pos 0) * (n * up d)) (down (pos 0) * down d) 0 c (mul-pos {m = 1} (lit< tt) (down_pos d)) C
    (ap (λ (z : ℕ). z * c) (zero-mul (n * up d)) ∙ zero-mul c ∙ sym (zero-mul (down (pos 0) * down d)))

pub share_is : (i k : ℕ) → i < 2 ^ 32 → k ≤ 1074 → mul binary64 (of_int binary64 (pos i)) (half_power k) ≡ part i k
unfolding part of_int
share_is zero k H K = zero_times (half_power k) 1 (2 ^ k) (pow_pos k) (half_power_value k K)
share_is (suc i) k H K =
    let v = half_power_value k K in
    let w : HasValue (round binary64 false (suc i) 1) false (suc i) 1 = round_whole binary64 false (suc i) (le_trans (le_of_lt H) (lit≤ tt)) in
    let I : 0 < suc i = omega arith in
    mul_at binary64 (round binary64 false (suc i) 1) (half_power k) (suc i) 1 1 (2 ^ k) (positive_of_value (round binary64 false (suc i) 1) (suc i) 1 w I) (positive_of_value (half_power k) 1 (2 ^ k) v (lit< tt)) (lit< tt) (pow_pos k) w v
    ∙ ap (λ (z : ℕ). round binary64 false z (1 * 2 ^ k)) (mul-one (suc i))
    ∙ ap (λ (z : ℕ). round binary64 false (suc i) z) (one-mul (2 ^ k))

-- ---- a difference of two fractions with one denominator
pick : (a b c : ℕ) → b ≤ a → sum binary64 false a true b c ≡ round binary64 false (a - b) c
unfolding sum
pick a b c h = go (ltb a b) (ltb→lt a b)
  where
    go : (t : Bool) → (T t → a < b) → cond t (round binary64 true (b - a) c) (round binary64 false (a - b) c) ≡ round binary64 false (a - b) c
    go true k = absurd (not-le_of_lt (k tt) h)
    go false k = refl

cross : (x de dd a c : ℕ) → x * c ≡ a * de → x * dd * c ≡ a * (de * dd)
cross x de dd a c h = mul_right_comm x dd c ∙ ap (λ (z : ℕ). z * dd) h ∙ mul_assoc a de dd

pub sub_at : (x y : Float) (a b c : ℕ) → T (positive x) → T (positive y) → 0 < c → HasValue x false a c → HasValue y false b c → b ≤ a → sub binary64 x y ≡ round binary64 false (a - b) c
unfolding sub
sub_at nan y a b c p q C h k l = absurd p
sub_at (inf s) y a b c p q C h k l = absurd p
sub_at (fin true m e) y a b c p q C h k l = absurd p
sub_at (fin false m e) nan a b c p q C h k l = absurd q
sub_at (fin false m e) (inf t) a b c p q C h k l = absurd q
sub_at (fin false m e) (fin true n d) a b c p q C h k l = absurd q
sub_at (fin false m e) (fin false n d) a b c p q C h k l =
    let A = m * up e * down d in
    let B = n * up d * down e in
    let D = down e * down d in
    let x : A * c ≡ a * D = cross (m * up e) (down e) (down d) a c h.1 in
    let y : B * c ≡ b * D = cross (n * up d) (down d) (down e) b c k.1 ∙ ap (λ (z : ℕ). b * z) (mul_comm (down d) (down e)) in
    let le : B ≤ A = le_of_mul-le-mul_right (le_trans (le_of_eq y) (le_trans (mul-le-mul_right D l) (le_of_eq (sym x)))) C in
    pick A B D le
    ∙ round_same binary64 false (A - B) D (a - b) c (mul-pos (down_pos e) (down_pos d)) C
    (mul_comm (A - B) c ∙ mul-sub c A B ∙ ap (λ (z : ℕ). z - c * B) (mul_comm c A ∙ x) ∙ ap (λ (z : ℕ). a * D - z) (mul_comm c B ∙ y)
    ∙ ap (λ (z : ℕ). z - b * D) (mul_comm a D) ∙ ap (λ (z : ℕ). D * a - z) (mul_comm b D) ∙ sym (mul-sub D a b) ∙ mul_comm D (a - b))

-- ---- p, 1 - p, p * (1 - p), n and p * n
module _ (i k n : ℕ) (I : 1 ≤ i) (H : i < 2 ^ k) (K : k ≤ 20) (N : 1 ≤ n) (M : n ≤ 2 ^ 24) where
  most : 2 ^ k ≤ 2 ^ 20
  most = pow_mono K

  pub p_value : HasValue (part i k) false i (2 ^ k)
  p_value = part_is_exact i k (lt_of_lt_of_le H (le_trans most (lit≤ tt))) (le_trans K (lit≤ tt))

  pub p_positive : T (positive (part i k))
  p_positive = positive_of_value (part i k) i (2 ^ k) p_value I

  less : (a b : ℕ) → a - b ≤ a
  less a b = omega arith

  rest_least : 1 ≤ 2 ^ k - i
  rest_least = omega (arith, H)

  rest_most : 2 ^ k - i ≤ 2 ^ 20
  rest_most = le_trans (less (2 ^ k) i) most

  pub rest_value : HasValue (sub binary64 one (part i k)) false (2 ^ k - i) (2 ^ k)
  rest_value =
      subst (λ (z : Float). HasValue z false (2 ^ k - i) (2 ^ k))
      (sym (sub_at one (part i k) (2 ^ k) i (2 ^ k) tt p_positive (pow_pos k) (refl, one-mul (2 ^ k) ∙ sym (mul-one (2 ^ k))) p_value (le_of_lt H)))
      (exact (2 ^ k - i) k (lt_of_le_of_lt rest_most (lit< tt)) (le_trans K (lit≤ tt)))

  rest_positive : T (positive (sub binary64 one (part i k)))
  rest_positive = positive_of_value (sub binary64 one (part i k)) (2 ^ k - i) (2 ^ k) rest_value rest_least

  pub spread_least : 1 ≤ i * (2 ^ k - i)
  spread_least = mul-pos I rest_least

  pub spread_most : i * (2 ^ k - i) ≤ 2 ^ 40
  spread_most = mul-le-mul (le_trans (le_of_lt H) most) rest_most

  pub spread_value : HasValue (mul binary64 (part i k) (sub binary64 one (part i k))) false (i * (2 ^ k - i)) (2 ^ (k + k))
  spread_value =
      subst (λ (z : Float). HasValue z false (i * (2 ^ k - i)) (2 ^ (k + k)))
      (sym (mul_at binary64 (part i k) (sub binary64 one (part i k)) i (2 ^ k) (2 ^ k - i) (2 ^ k) p_positive rest_positive (pow_pos k) (pow_pos k) p_value rest_value
      ∙ ap (λ (z : ℕ). round binary64 false (i * (2 ^ k - i)) z) (sym (pow-add 2 k k))))
      (exact (i * (2 ^ k - i)) (k + k) (lt_of_le_of_lt spread_most (lit< tt)) (omega (arith, K)))

  pub spread_positive : T (positive (mul binary64 (part i k) (sub binary64 one (part i k))))
  spread_positive = positive_of_value (mul binary64 (part i k) (sub binary64 one (part i k))) (i * (2 ^ k - i)) (2 ^ (k + k)) spread_value spread_least

  pub n_value : HasValue (of_int binary64 (pos n)) false n 1
  unfolding of_int
  n_value = round_whole binary64 false n (le_trans M (lit≤ tt))

  pub n_positive : T (positive (of_int binary64 (pos n)))
  n_positive = positive_of_value (of_int binary64 (pos n)) n 1 n_value N

  pub expected_value : HasValue (mul binary64 (part i k) (of_int binary64 (pos n))) false (i * n) (2 ^ k)
  expected_value =
      subst (λ (z : Float). HasValue z false (i * n) (2 ^ k))
      (sym (mul_at binary64 (part i k) (of_int binary64 (pos n)) i (2 ^ k) n 1 p_positive n_positive (pow_pos k) (lit< tt) p_value n_value ∙ ap (λ (z : ℕ). round binary64 false (i * n) z) (mul-one (2 ^ k))))
      (exact (i * n) k (lt_of_le_of_lt most_expected (lit< tt)) (le_trans K (lit≤ tt)))
    where
      most_expected : i * n ≤ 2 ^ 20 * 2 ^ 24
      most_expected = mul-le-mul (le_trans (le_of_lt H) most) M
