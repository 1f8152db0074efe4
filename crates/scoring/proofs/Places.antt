-- `root_at`, which is short to compute, and `root_of`, which the code is proved against, are the same double.
use mathlib.Core.Path.{◌≡◌, refl, sym, ap, ◌∙◌, subst}
use mathlib.Core.Logic.{inl, inr}
use Prim.Native.Nat.{ℕ, suc, ◌+◌, ◌-◌, ◌*◌, ◌/◌, ◌%◌, ◌^◌, ◌≤◌, ◌<◌}
use native.Mathlib.Nat.{le_trans, le_of_eq, le_of_lt, lt_of_lt_of_le, lt_of_le_of_lt, not-le_of_lt, lt_irrefl, mul-one, one-mul, mul_assoc, mul-mul-mul_comm, mul-pos, mul-le-mul_right, mul-le-mul_left, mul-lt-mul_of_pos_right, eq_of_mul-eq-mul_right, le-add_left}
use native.Mathlib.Omega.{arith}
use mathlib.Core.Bool.{false}
use lib.IntN.{ℤ, pos, negsuc}
use lib.Dec.{T, lit≤, lit<}
use lib.Pow.{pow-add, pow_pos, pow_mono, pow-lt}
use lib.Ieee.{Float, fin, binary64, up, down, round}
use lib.Ieee.Digits.{back}
use lib.Ieee.Fits.{down_pos, round-fits}
use lib.Ieee.Exact.{HasValue}
use lib.Ieee.Order.{drop, kept}
use lib.Ieee.Positive.{first_pos}
use lib.Ieee.Scale.{round_same, round_val, grid_scale, normal_of_fraction}
use Rattle.scoring.specs.Units.{isqrt, in_units, plain, root_of}
use Rattle.scoring.specs.Root.{half_of, rest_of, root_at}
use Rattle.scoring.proofs.Squares.{square_mono}
use Rattle.scoring.proofs.Doubles.{in_units_is, value_unique}
use Rattle.scoring.proofs.Rooting.{Root, Halved, twice_root, isqrt_is, root_ge, long_root, no_carry, halved, same_number, root_of_value, root_of_fits, in_quarters, same_scale, under_overflow, fewer, half_high, range}
use Rattle.scoring.proofs.Shapes.{here_or_on, shape, widened, in_format, exponent, parity}

-- ---- the powers of two
abbrev Powers : ℤ → Type 0
Powers e = (w : ℕ) × (h : ℕ) × (up (half_of e) * 2 ^ 1076 ≡ 2 ^ w * (2 ^ 56 * down (half_of e))) × ((m : ℕ) → m * up e * 2 ^ 1074 ≡ m * 2 ^ h * down e) × (h + 1076 ≡ rest_of e + 110 + (w + w))

whole_sum : (k : ℕ) → k + 1074 + 1076 ≡ k % 2 + 110 + (k / 2 + 1020 + (k / 2 + 1020))
whole_sum k = omega arith

part_sum : (k : ℕ) → suc k ≤ 1074 → 1074 - suc k + 1076 ≡ 1 - k % 2 + 110 + (1019 - k / 2 + (1019 - k / 2))
part_sum k h = omega arith

half_sum : (k : ℕ) → suc k ≤ 1074 → 1019 - k / 2 + (56 + suc (k / 2)) ≡ 1076
half_sum k h = omega arith

regroup : (k : ℕ) → k / 2 + 1020 + 56 ≡ k / 2 + 1076
regroup k = omega arith

powers : (e : ℤ) → down e ≤ 2 ^ 1074 → Powers e
powers (pos k) l = (
  k / 2 + 1020,
  k + 1074,
  sym (pow-add 2 (k / 2) 1076) ∙ ap (λ (z : ℕ). 2 ^ z) (sym (regroup k)) ∙ pow-add 2 (k / 2 + 1020) 56,
  λ m. mul_assoc m (2 ^ k) (2 ^ 1074) ∙ ap (λ (z : ℕ). m * z) (sym (pow-add 2 k 1074)) ∙ sym (mul-one (m * 2 ^ (k + 1074))),
  whole_sum k,
)
powers (negsuc k) l =
    let g : suc k ≤ 1074 = elim (here_or_on 1074 (suc k)) [ inl z ↦ absurd (not-le_of_lt (pow-lt z) l) | inr z ↦ z ] in (
      1019 - k / 2,
      1074 - suc k,
      ap (λ (z : ℕ). 2 ^ z) (sym (half_sum k g)) ∙ pow-add 2 (1019 - k / 2) (56 + suc (k / 2)) ∙ ap (λ (z : ℕ). 2 ^ (1019 - k / 2) * z) (pow-add 2 56 (suc (k / 2))),
      λ m. ap (λ (z : ℕ). z * 2 ^ 1074) (mul-one m) ∙ ap (λ (z : ℕ). m * 2 ^ z) (sym (back 1074 (suc k) g)) ∙ ap (λ (z : ℕ). m * z) (pow-add 2 (1074 - suc k) (suc k)) ∙ sym (mul_assoc m (2 ^ (1074 - suc k)) (2 ^ suc k)),
      part_sum k g,
    )

-- ---- n' * 4 ^ w is N * 4 ^ G, and N is less, so w is less than G
apart : (n N w G : ℕ) → N < n → N * (2 ^ G * 2 ^ G) ≡ n * (2 ^ w * 2 ^ w) → w ≤ G
apart n N w G l e =
    elim (here_or_on G w) [
      | inl h ↦
          absurd (lt_irrefl (n * (2 ^ w * 2 ^ w))
          (lt_of_le_of_lt (le_of_eq (sym e))
          (lt_of_le_of_lt (mul-le-mul_left N (square_mono (pow_mono (le_of_lt h)))) (mul-lt-mul_of_pos_right l (mul-pos (pow_pos w) (pow_pos w))))))
      | inr h ↦ h
    ]

split : (N w G : ℕ) → w ≤ G → N * (2 ^ G * 2 ^ G) ≡ N * (2 ^ (G - w) * 2 ^ (G - w)) * (2 ^ w * 2 ^ w)
split N w G l =
    ap (λ (z : ℕ). N * (z * z)) (ap (λ (z : ℕ). 2 ^ z) (sym (back G w l)) ∙ pow-add 2 (G - w) w)
    ∙ ap (λ (z : ℕ). N * z) (mul-mul-mul_comm (2 ^ (G - w)) (2 ^ w) (2 ^ (G - w)) (2 ^ w))
    ∙ sym (mul_assoc N (2 ^ (G - w) * 2 ^ (G - w)) (2 ^ w * 2 ^ w))

cancelled : (n N w G : ℕ) → w ≤ G → N * (2 ^ G * 2 ^ G) ≡ n * (2 ^ w * 2 ^ w) → n ≡ N * (2 ^ (G - w) * 2 ^ (G - w))
cancelled n N w G l e = eq_of_mul-eq-mul_right (2 ^ w * 2 ^ w) (mul-pos (pow_pos w) (pow_pos w)) n (N * (2 ^ (G - w) * 2 ^ (G - w))) (sym e ∙ split N w G l)

-- ---- the value, in units
fast_value : (n N t q w G : ℕ) → N < n → 2 ^ 53 * 2 ^ 53 ≤ n → N * (2 ^ G * 2 ^ G) ≡ n * (2 ^ w * 2 ^ w) → Root N t → 2 ^ 53 ≤ t → t < 2 ^ 54 → Halved N t q → q < 2 ^ 53 → G < 2046
    → HasValue (round binary64 false (twice_root n * 2 ^ w) (2 ^ 1076)) false (q * 2 ^ G) (2 ^ 1074)
fast_value n N t q w G l big e r long short half small range =
    let num = twice_root n in
    let le : w ≤ G = apart n N w G l e in
    let is : kept 53 (num * 2 ^ 1074) (2 ^ 1076) * 2 ^ drop 53 (num * 2 ^ 1074) (2 ^ 1076) ≡ q * 2 ^ (G - w) =
    same_scale num 4 (2 ^ 1074) (pow_pos 1074) (lit< tt) ∙ in_quarters n N t q (G - w) (cancelled n N w G le e) r long short half in
    let whole : kept 53 (num * 2 ^ w * 2 ^ 1074) (2 ^ 1076) * 2 ^ drop 53 (num * 2 ^ w * 2 ^ 1074) (2 ^ 1076) ≡ q * 2 ^ G =
    grid_scale binary64 num (2 ^ 1076) w (pow_pos 1076) (normal_of_fraction binary64 num (2 ^ 1076) (pow_pos 1076) (mul-le-mul_right (2 ^ 1074) (root_ge (2 ^ 53) n big)))
    ∙ ap (λ (z : ℕ). z * 2 ^ w) is
    ∙ mul_assoc q (2 ^ (G - w)) (2 ^ w)
    ∙ ap (λ (z : ℕ). q * z) (sym (pow-add 2 (G - w) w) ∙ ap (λ (z : ℕ). 2 ^ z) (back G w le)) in
    subst (λ (z : ℕ). HasValue (round binary64 false (num * 2 ^ w) (2 ^ 1076)) false z (2 ^ 1074)) whole
    (round_val binary64 (num * 2 ^ w) (2 ^ 1076) (lt_of_le_of_lt (le_of_eq whole) (under_overflow q G small range)))

root_at_round : (m : ℕ) (e : ℤ) → root_at m e ≡ round binary64 false (twice_root (m * 2 ^ (rest_of e + 110)) * up (half_of e)) (2 ^ 56 * down (half_of e))
unfolding root_at
root_at_round m e = refl

high : (m d : ℕ) → 1 ≤ m → 2 ^ 110 ≤ m * 2 ^ (d + 110)
high m d h = le_trans (pow_mono (le-add_left 110 d)) (le_trans (le_of_eq (sym (one-mul (2 ^ (d + 110))))) (mul-le-mul_right (2 ^ (d + 110)) h))

low_number : (a : ℕ) → a + 2 ≤ 2 ^ 54 → a * 2 ^ 54 < 2 ^ 110
low_number a h = omega arith

pub root_at_is : (m : ℕ) (e : ℤ) → 1 ≤ m → T (plain (fin false m e)) → down e ≤ 2 ^ 1074 → root_at m e ≡ root_of (in_units (fin false m e))
root_at_is m e P p l =
    let x : Float = fin false m e in
    let X = in_units x in
    let o = powers e l in
    let w = o.0 in
    let h = o.1 in
    let n = m * 2 ^ (rest_of e + 110) in
    let num = twice_root n in
    let same : X ≡ m * 2 ^ h = in_units_is m e (m * 2 ^ h) (o.3 m) in
    let P' : 0 < X = lt_of_lt_of_le (mul-pos P (pow_pos h)) (le_of_eq (sym same)) in
    let v = shape x p in
    let d = widened v.0 v.1 (first_pos v.0 (2 ^ v.1) (lt_of_lt_of_le P' (le_of_eq v.3))) v.2 in
    let m₁ = d.0 in
    let e₁ = d.1 in
    let k : X * 2 ^ 1022 ≡ m₁ * 2 ^ e₁ = ap (λ (z : ℕ). z * 2 ^ 1022) v.3 ∙ d.4 in
    let E : e₁ < 3068 = exponent X m₁ e₁ (in_format x p) d.2 k in
    let A = parity m₁ e₁ d.2 d.3 in
    let a = A.0 in
    let N = a * 2 ^ 54 in
    let t = isqrt N in
    let r : Root N t = isqrt_is N in
    let q = (t + 1) / 2 in
    let G = e₁ / 2 in
    let long : 2 ^ 53 ≤ t = long_root a t A.1.0 r in
    let c = no_carry a t A.1.1 r in
    let s : X * 2 ^ 1076 ≡ N * (2 ^ G * 2 ^ G) = same_number X m₁ e₁ a k A.1 in
    let H : Halved N t q = halved a t r in
    let both : X * 2 ^ 1076 ≡ n * (2 ^ w * 2 ^ w) =
    ap (λ (z : ℕ). z * 2 ^ 1076) same
    ∙ mul_assoc m (2 ^ h) (2 ^ 1076)
    ∙ ap (λ (z : ℕ). m * z) (sym (pow-add 2 h 1076) ∙ ap (λ (z : ℕ). 2 ^ z) o.4 ∙ pow-add 2 (rest_of e + 110) (w + w) ∙ ap (λ (z : ℕ). 2 ^ (rest_of e + 110) * z) (pow-add 2 w w))
    ∙ sym (mul_assoc m (2 ^ (rest_of e + 110)) (2 ^ w * 2 ^ w)) in
    let big : 2 ^ 110 ≤ n = high m (rest_of e) P in
    let f : root_at m e ≡ round binary64 false (num * 2 ^ w) (2 ^ 1076) =
    root_at_round m e
    ∙ round_same binary64 false (num * up (half_of e)) (2 ^ 56 * down (half_of e)) (num * 2 ^ w) (2 ^ 1076) (mul-pos (pow_pos 56) (down_pos (half_of e))) (pow_pos 1076)
    (mul_assoc num (up (half_of e)) (2 ^ 1076) ∙ ap (λ (z : ℕ). num * z) o.2 ∙ sym (mul_assoc num (2 ^ w) (2 ^ 56 * down (half_of e)))) in
    f
    ∙ value_unique (round binary64 false (num * 2 ^ w) (2 ^ 1076)) (root_of X) (q * 2 ^ G) (round-fits binary64 false (num * 2 ^ w) (2 ^ 1076)) (root_of_fits X)
    (fast_value n N t q w G (lt_of_lt_of_le (low_number a A.1.1) big) (le_trans (lit≤ tt) big) (sym s ∙ both) r long (fewer t c) H (half_high t c) (range e₁ E))
    (root_of_value X N t q G s r long (fewer t c) H (half_high t c) (range e₁ E))
