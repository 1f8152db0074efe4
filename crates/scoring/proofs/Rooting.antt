-- The root of X units (`root_of`) from the whole root of a number of 107 or 108 digits, which is what the code works out.
use mathlib.Core.Path.{◌≡◌, refl, sym, ap, ◌∙◌, subst}
use mathlib.Core.Logic.{◌⊎◌, inl, inr, ⊎_elim}
use Prim.Native.Nat.{ℕ, zero, suc, ◌+◌, ◌-◌, ◌*◌, ◌/◌, ◌%◌, ◌^◌, ◌≤◌, ◌<◌, zero-le, compare, Ordering}
use native.Mathlib.Nat.{le_trans, le_of_eq, le_of_lt, le_antisymm, mul_assoc, mul-div-mul_right, mul_right_comm, pow-succ', lt_of_lt_of_le, lt_of_le_of_lt, lt_of_not-le, not-le_of_lt, lt_of_mul-lt-mul_right, mul-le-mul_right, mul-lt-mul_of_pos_right, mul_left_comm, mul-mul-mul_comm, suc-mul, add-mul, one-mul, zero-add, add_assoc, mod-lt, div-add-mod', div-lt_iff_lt-mul, le-div_iff_mul-le, two-pow-succ, mul-pos}
use native.Mathlib.Omega.{arith}
use mathlib.Core.Bool.{Bool, true, false, not, cond}
use lib.Dec.{T, is_le, compare_is_eq, leb, eqb, leb→le, nleb→lt, eqb→eq, lit<}
use lib.Pow.{pow-add, pow_pos, pow_mono, shl_lt}
use lib.Ieee.{Float, binary64, size, nearest, round, fits, of_bits}
use lib.Ieee.Fits.{round-fits}
use lib.Ieee.Bits.{of_bits-fits}
use lib.Ieee.Digits.{size-lt, size-le}
use lib.Ieee.Exact.{HasValue}
use lib.Ieee.Nearest.{closest, closest_same}
use lib.Ieee.Order.{drop, kept}
use lib.Ieee.Scale.{round_val}
use Rattle.scoring.specs.Units.{isqrt, isqrt_from, root_of}
use Rattle.scoring.specs.Whole.{Within}
use Rattle.scoring.proofs.Squares.{square_mono, below_root, square_odd}
use Rattle.scoring.proofs.Doubles.{normal_value, value_unique}

-- ---- the whole number nearest n / u
le_scaled : (a b u : ℕ) → a * u < b * u + u → a ≤ b
le_scaled a b u h = let l : a < suc b = lt_of_mul-lt-mul_right u (subst (λ (x : ℕ). a * u < x) (sym (suc-mul b u)) h) in omega arith

closest_is : (n u q : ℕ) → 0 < u → q * u * 2 < n * 2 + u → n * 2 < q * u * 2 + u → closest n u ≡ q
closest_is n u q U lo hi = go (compare (n % u * 2) u) (leb→le (n % u * 2) u) (nleb→lt (n % u * 2) u) (eqb→eq (n % u * 2) u)
  where
    parts : n / u * u + n % u ≡ n
    parts = div-add-mod' n u

    less : n % u < u
    less = mod-lt n U

    go : (o : Ordering) → (T (is_le o) → n % u * 2 ≤ u) → (T (not (is_le o)) → u < n % u * 2) → (T (compare_is_eq o) → n % u * 2 ≡ u) → nearest (n / u) o ≡ q
    go Ordering.lt h k e = let g = h tt in le_antisymm (le_scaled (n / u) q u (omega (arith, parts, less))) (le_scaled q (n / u) u (omega (arith, parts, less)))
    go Ordering.eq h k e =
        let g = e tt in
        let a : q ≤ n / u = le_scaled q (n / u) u (omega (arith, parts, less)) in
        let b : suc (n / u) ≤ q = le_scaled (suc (n / u)) q u (omega (arith, parts, less, suc-mul (n / u) u)) in
        omega arith
    go Ordering.gt h k e =
        let g = k tt in
        le_antisymm (le_scaled (suc (n / u)) q u (omega (arith, parts, less, suc-mul (n / u) u))) (le_scaled q (suc (n / u)) u (omega (arith, parts, less, suc-mul (n / u) u)))

-- ---- n / d units rounded to 53 digits, where its whole part has 53 + g
rounded_is : (n d q g : ℕ) → 0 < d → 2 ^ (52 + g) * d ≤ n → n < 2 ^ (53 + g) * d → q * (d * 2 ^ g) * 2 < n * 2 + d * 2 ^ g → n * 2 < q * (d * 2 ^ g) * 2 + d * 2 ^ g
    → kept 53 n d * 2 ^ drop 53 n d ≡ q * 2 ^ g
rounded_is n d q g D lo hi below above =
    let most : size (n / d) ≤ 53 + g = size-le (n / d) (53 + g) ((div-lt_iff_lt-mul D).1 hi) in
    let least : 52 + g < size (n / d) = lt_of_not-le (λ (z : size (n / d) ≤ 52 + g). not-le_of_lt (lt_of_lt_of_le (size-lt (n / d)) (pow_mono z)) ((le-div_iff_mul-le D).1 lo)) in
    let dropped : drop 53 n d ≡ g = omega arith in
    ap (λ (k : ℕ). closest n (d * 2 ^ k) * 2 ^ k) dropped ∙ ap (λ (z : ℕ). z * 2 ^ g) (closest_is n (d * 2 ^ g) q (mul-pos D (pow_pos g)) below above)

-- ---- `isqrt`
abbrev pub Root : ℕ → ℕ → Type 0
Root n r = Within n r 1

isqrt_from_is : (d n s : ℕ) → s * s ≤ n → n < (s + 2 ^ d) * (s + 2 ^ d) → Root n (isqrt_from d n s)
unfolding isqrt_from
isqrt_from_is zero n s lo hi = (lo, hi)
isqrt_from_is (suc d) n s lo hi = go (leb ((s + 2 ^ d) * (s + 2 ^ d)) n) (leb→le ((s + 2 ^ d) * (s + 2 ^ d)) n) (nleb→lt ((s + 2 ^ d) * (s + 2 ^ d)) n) (isqrt_from_is d n)
  where
    go : (b : Bool) → (T b → (s + 2 ^ d) * (s + 2 ^ d) ≤ n) → (T (not b) → n < (s + 2 ^ d) * (s + 2 ^ d)) → ((r : ℕ) → r * r ≤ n → n < (r + 2 ^ d) * (r + 2 ^ d) → Root n (isqrt_from d n r))
        → Root n (isqrt_from d n (cond b (s + 2 ^ d) s))
    go true h k ih = ih (s + 2 ^ d) (h tt) (lt_of_lt_of_le hi (square_mono (le_of_eq (ap (λ (x : ℕ). s + x) (two-pow-succ d) ∙ sym (add_assoc s (2 ^ d) (2 ^ d))))))
    go false h k ih = ih s lo (k tt)

pub isqrt_is : (n : ℕ) → Root n (isqrt n)
unfolding isqrt
isqrt_is n =
    let k = suc (size n / 2) in
    let h : size n ≤ k + k = omega arith in
    isqrt_from_is k n 0 zero-le
    (subst (λ (x : ℕ). n < x * x) (sym (zero-add (2 ^ k))) (lt_of_lt_of_le (size-lt n) (le_trans (pow_mono h) (le_of_eq (pow-add 2 k k)))))

-- ---- twice the root of n, and 1 for a rest
abbrev pub twice_root : ℕ → ℕ
twice_root n = 2 * isqrt n + cond (eqb (isqrt n * isqrt n) n) 0 1

at_most_one : (b : Bool) → cond b 0 1 ≤ 1
at_most_one true = zero-le
at_most_one false = le_of_eq refl

under_next : (W n : ℕ) → W * W ≤ n → W ≤ isqrt n
under_next W n h = let l : W < isqrt n + 1 = below_root (lt_of_le_of_lt h (isqrt_is n).1) in omega arith

pub root_ge : (W n : ℕ) → W * W ≤ n → 2 * W ≤ twice_root n
root_ge W n h = omega (arith, under_next W n h)

pub root_lt : (W n : ℕ) → n < W * W → twice_root n < 2 * W
root_lt W n h = let l : isqrt n < W = below_root (lt_of_le_of_lt (isqrt_is n).0 h) in omega (arith, at_most_one (eqb (isqrt n * isqrt n) n))

pub root_gt : (W n : ℕ) → W * W < n → 2 * W < twice_root n
root_gt W n h = go (eqb (isqrt n * isqrt n) n) (eqb→eq (isqrt n * isqrt n) n) (under_next W n (le_of_lt h))
  where
    go : (b : Bool) → (T b → isqrt n * isqrt n ≡ n) → W ≤ isqrt n → 2 * W < 2 * isqrt n + cond b 0 1
    go true e l = let g : W < isqrt n = below_root (lt_of_lt_of_le h (le_of_eq (sym (e tt)))) in omega arith
    go false e l = omega arith

-- ---- `root_of X`, where X * 2 ^ 1076 is N * 4 ^ g, N has 107 or 108 digits, and t, of 54 digits, is the root of N
pub root_of_is : (X : ℕ) → root_of X ≡ round binary64 false (twice_root (X * 2 ^ 1076)) (2 ^ 1076)
unfolding root_of
root_of_is X = refl

-- t's last digit decides: q is t / 2, or, where t is odd and so below the root, (t + 1) / 2
abbrev pub Halved : ℕ → ℕ → ℕ → Type 0
Halved N t q = (t ≡ 2 * q) ⊎ ((t + 1 ≡ 2 * q) × (t * t < N))

scaled : (t U : ℕ) → (t * U) * (t * U) ≡ t * t * (U * U)
scaled t U = mul-mul-mul_comm t U t U

-- `omega` stops at a number of more than 38 digits, so no 2 ^ 1074 stands here: n is a variable
pub in_quarters : (n N t q g : ℕ) → n ≡ N * (2 ^ g * 2 ^ g) → Root N t → 2 ^ 53 ≤ t → t < 2 ^ 54 → Halved N t q → kept 53 (twice_root n) 4 * 2 ^ drop 53 (twice_root n) 4 ≡ q * 2 ^ g
in_quarters n N t q g e r long short half =
    let U = 2 ^ g in
    let num = twice_root n in
    let UP : 0 < U = pow_pos g in
    let A = t * U in
    let B = q * U in
    let lo : 2 * A ≤ num = root_ge A n (le_trans (le_of_eq (scaled t U)) (le_trans (mul-le-mul_right (U * U) r.0) (le_of_eq (sym e)))) in
    let hi : num < 2 * ((t + 1) * U) = root_lt ((t + 1) * U) n (lt_of_le_of_lt (le_of_eq e) (lt_of_lt_of_le (mul-lt-mul_of_pos_right r.1 (mul-pos UP UP)) (le_of_eq (sym (scaled (t + 1) U))))) in
    let next : (t + 1) * U ≡ A + U = add-mul t 1 U ∙ ap (λ (x : ℕ). A + x) (one-mul U) in
    let long' : 2 ^ 53 * U ≤ A = mul-le-mul_right U long in
    let short' : (t + 1) * U ≤ 2 ^ 54 * U = mul-le-mul_right U (omega arith) in
    let p52 : 2 ^ (52 + g) ≡ 2 ^ 52 * U = pow-add 2 52 g in
    let p53 : 2 ^ (53 + g) ≡ 2 ^ 53 * U = pow-add 2 53 g in
    let unit : q * (4 * U) ≡ 4 * B = mul_left_comm q 4 U in
    let near : ((2 * A < num) × (2 * B ≡ A + U)) ⊎ (2 * B ≡ A) =
    ⊎_elim
    (λ w. inr (sym (mul_assoc 2 q U) ∙ ap (λ (x : ℕ). x * U) (sym w)))
    (λ w. inl (
      root_gt A n (lt_of_le_of_lt (le_of_eq (scaled t U)) (lt_of_lt_of_le (mul-lt-mul_of_pos_right w.1 (mul-pos UP UP)) (le_of_eq (sym e)))),
      sym (mul_assoc 2 q U) ∙ ap (λ (x : ℕ). x * U) (sym w.0) ∙ next,
    ))
    half in
    rounded_is num 4 q g (lit< tt) (omega arith) (omega arith) (⊎_elim (λ w. omega arith) (λ w. omega arith) near) (⊎_elim (λ w. omega arith) (λ w. omega arith) near)

pub same_scale : (a c L : ℕ) → 0 < L → 0 < c → kept 53 (a * L) (c * L) * 2 ^ drop 53 (a * L) (c * L) ≡ kept 53 a c * 2 ^ drop 53 a c
same_scale a c L LP C =
    let k = drop 53 a c in
    ap (λ (z : ℕ). closest (a * L) (c * L * 2 ^ (size z - 53)) * 2 ^ (size z - 53)) (mul-div-mul_right a c LP)
    ∙ ap (λ (z : ℕ). z * 2 ^ k)
    (closest_same (a * L) (c * L * 2 ^ k) a (c * 2 ^ k) (mul-pos (mul-pos C LP) (pow_pos k)) (mul-pos C (pow_pos k)) (simp (mul_assoc, mul_left_comm)))

pub under_overflow : (q g : ℕ) → q < 2 ^ 53 → g < 2046 → q * 2 ^ g < 2 ^ 2098
under_overflow q g small range = lt_of_lt_of_le (shl_lt 53 g small) (pow_mono {j = 2098} (wide g range))
  where
    wide : (g : ℕ) → g < 2046 → 53 + g ≤ 2098
    wide g h = omega arith

pub root_of_value : (X N t q g : ℕ) → X * 2 ^ 1076 ≡ N * (2 ^ g * 2 ^ g) → Root N t → 2 ^ 53 ≤ t → t < 2 ^ 54 → Halved N t q → q < 2 ^ 53 → g < 2046
    → HasValue (root_of X) false (q * 2 ^ g) (2 ^ 1074)
root_of_value X N t q g e r long short half small range =
    let n = X * 2 ^ 1076 in
    let num = twice_root n in
    let is : kept 53 (num * 2 ^ 1074) (2 ^ 1076) * 2 ^ drop 53 (num * 2 ^ 1074) (2 ^ 1076) ≡ q * 2 ^ g =
    same_scale num 4 (2 ^ 1074) (pow_pos 1074) (lit< tt) ∙ in_quarters n N t q g e r long short half in
    subst (λ (z : Float). HasValue z false (q * 2 ^ g) (2 ^ 1074)) (sym (root_of_is X))
    (subst (λ (z : ℕ). HasValue (round binary64 false num (2 ^ 1076)) false z (2 ^ 1074)) is
    (round_val binary64 num (2 ^ 1076) (lt_of_le_of_lt (le_of_eq is) (under_overflow q g small range))))

-- ---- from the number a, of 53 or 54 digits, whose root the code takes, to the double

-- a * 4 ^ (e / 2) is m * 2 ^ e
abbrev pub Radicand : ℕ → ℕ → ℕ → Type 0
Radicand m e a = (2 ^ 52 ≤ a) × (a + 2 ≤ 2 ^ 54) × (a * (2 ^ (e / 2) * 2 ^ (e / 2)) ≡ m * 2 ^ e)

pub even_radicand : (m e : ℕ) → 2 ^ 52 ≤ m → m < 2 ^ 53 → (e % 2 ≡ 1 → ⊥) → Radicand m e m
even_radicand m e l u h =
    let k : e / 2 + e / 2 ≡ e = even e h in (l, omega arith, ap (λ (x : ℕ). m * x) (sym (pow-add 2 (e / 2) (e / 2)) ∙ ap (λ (x : ℕ). 2 ^ x) k))
  where
    even : (x : ℕ) → (x % 2 ≡ 1 → ⊥) → x / 2 + x / 2 ≡ x
    even x never = let s : x % 2 < 1 = lt_of_not-le (λ (g : 1 ≤ x % 2). never (omega arith)) in omega arith

pub odd_radicand : (m e : ℕ) → 2 ^ 52 ≤ m → m < 2 ^ 53 → e % 2 ≡ 1 → Radicand m e (m * 2)
odd_radicand m e l u h =
    let k : suc (e / 2 + e / 2) ≡ e = omega arith in (
      omega arith,
      omega arith,
      mul_assoc m 2 (2 ^ (e / 2) * 2 ^ (e / 2)) ∙ ap (λ (x : ℕ). m * (2 * x)) (sym (pow-add 2 (e / 2) (e / 2))) ∙ ap (λ (x : ℕ). m * x) (sym (pow-succ' 2 (e / 2 + e / 2)) ∙ ap (λ (x : ℕ). 2 ^ x) k),
    )

pub long_root : (a t : ℕ) → 2 ^ 52 ≤ a → Root (a * 2 ^ 54) t → 2 ^ 53 ≤ t
long_root a t h r = let l : 2 ^ 53 < t + 1 = below_root (omega arith) in omega arith

-- (2 ^ 54 - 1) ^ 2 is above (2 ^ 54 - 2) * 2 ^ 54, so no carry
pub no_carry : (a t : ℕ) → a + 2 ≤ 2 ^ 54 → Root (a * 2 ^ 54) t → t + 1 < 2 ^ 54
no_carry a t h r = lt_of_not-le (λ (g : 2 ^ 54 ≤ t + 1). clash (square_mono (shift g)))
  where
    shift : 2 ^ 54 ≤ t + 1 → 18014398509481983 ≤ t
    shift g = omega arith

    clash : 18014398509481983 * 18014398509481983 ≤ t * t → ⊥
    clash g = omega (arith, r.0)

pub halved : (a t : ℕ) → Root (a * 2 ^ 54) t → Halved (a * 2 ^ 54) t ((t + 1) / 2)
halved a t r = go (t % 2) refl
  where
    go : (d : ℕ) → t % 2 ≡ d → Halved (a * 2 ^ 54) t ((t + 1) / 2)
    go zero h = inl (omega arith)
    go (suc d) h =
        let k : t ≡ 2 * (t / 2) + 1 = omega arith in
        let s : t * t ≡ 4 * (t / 2 * (t / 2)) + 4 * (t / 2) + 1 = ap (λ (x : ℕ). x * x) k ∙ square_odd (t / 2) in
        inr (omega arith, omega (arith, r.0))

pub same_number : (X m e a : ℕ) → X * 2 ^ 1022 ≡ m * 2 ^ e → Radicand m e a → X * 2 ^ 1076 ≡ a * 2 ^ 54 * (2 ^ (e / 2) * 2 ^ (e / 2))
same_number X m e a h v =
    sym (mul_assoc X (2 ^ 1022) (2 ^ 54)) ∙ ap (λ (x : ℕ). x * 2 ^ 54) (h ∙ sym v.2) ∙ mul_right_comm a (2 ^ (e / 2) * 2 ^ (e / 2)) (2 ^ 54)

pub range : (e : ℕ) → e < 3068 → e / 2 < 2046
range e h = omega arith

half_low : (t : ℕ) → 2 ^ 53 ≤ t → 4503599627370496 ≤ (t + 1) / 2
half_low t h = omega arith

pub half_high : (t : ℕ) → t + 1 < 2 ^ 54 → (t + 1) / 2 < 2 ^ 53
half_high t h = omega arith

pub fewer : (t : ℕ) → t + 1 < 2 ^ 54 → t < 2 ^ 54
fewer t h = omega arith

-- the pattern that `normal_root` makes
abbrev pub made : ℕ → ℕ → ℕ
made e t = e / 2 * 4503599627370496 + (t + 1) / 2

pub made_value : (m e a t : ℕ) → Radicand m e a → Root (a * 2 ^ 54) t → e < 3068 → HasValue (of_bits binary64 (made e t)) false ((t + 1) / 2 * 2 ^ (e / 2)) (2 ^ 1074)
made_value m e a t v r h = normal_value (e / 2) ((t + 1) / 2) (half_low t (long_root a t v.0 r)) (half_high t (no_carry a t v.1 r)) (range e h)

pub root_of_fits : (X : ℕ) → T (fits binary64 (root_of X))
root_of_fits X = subst (λ (z : Float). T (fits binary64 z)) (sym (root_of_is X)) (round-fits binary64 false (twice_root (X * 2 ^ 1076)) (2 ^ 1076))

pub made_is : (X m e a t : ℕ) → Radicand m e a → Root (a * 2 ^ 54) t → e < 3068 → X * 2 ^ 1022 ≡ m * 2 ^ e → of_bits binary64 (made e t) ≡ root_of X
made_is X m e a t v r h k =
    let c = no_carry a t v.1 r in
    value_unique (of_bits binary64 (made e t)) (root_of X) ((t + 1) / 2 * 2 ^ (e / 2)) (of_bits-fits binary64 (made e t)) (root_of_fits X)
    (made_value m e a t v r h)
    (root_of_value X (a * 2 ^ 54) t ((t + 1) / 2) (e / 2) (same_number X m e a k v) r (long_root a t v.0 r) (fewer t c) (halved a t r) (half_high t c) (range e h))

-- ---- m * 2 ^ e, with m doubled as e falls
abbrev pub Same : ℕ → ℕ → ℕ → ℕ → Type 0
Same m₀ e₀ m e = (m * 2 ^ e ≡ m₀ * 2 ^ e₀) × (m < 2 ^ 53) × (e ≤ e₀)

-- with fewer than 53 digits, e is above e₀ - 52
pub room : (m₀ e₀ m e : ℕ) → 1 ≤ m₀ → 1022 ≤ e₀ → m < 2 ^ 52 → Same m₀ e₀ m e → 1 ≤ e
room m₀ e₀ m e P E l v =
    let one_each : 1 * 2 ^ e₀ ≤ m₀ * 2 ^ e₀ = mul-le-mul_right (2 ^ e₀) P in
    let g : 2 ^ e₀ < 2 ^ (52 + e) = lt_of_le_of_lt (le_trans (le_of_eq (sym (one-mul (2 ^ e₀)))) (le_trans one_each (le_of_eq (sym v.0)))) (shl_lt 52 e l) in
    let h : e₀ < 52 + e = lt_of_not-le (λ (z : 52 + e ≤ e₀). not-le_of_lt g (pow_mono z)) in
    omega arith

pub doubled : (m₀ e₀ m e : ℕ) → 1 ≤ e → m < 2 ^ 52 → Same m₀ e₀ m e → Same m₀ e₀ (m * 2) (e - 1)
doubled m₀ e₀ m e P l v =
    let k : suc (e - 1) ≡ e = omega arith in
    (mul_assoc m 2 (2 ^ (e - 1)) ∙ ap (λ (x : ℕ). m * x) (sym (pow-succ' 2 (e - 1)) ∙ ap (λ (x : ℕ). 2 ^ x) k) ∙ v.0, omega arith, omega arith)
