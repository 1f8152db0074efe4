-- Doubles as m * 2 ^ h units, and how the squares of points halfway between them lie to a number whose root is known to 54 digits.
use mathlib.Core.Path.{◌≡◌, refl, sym, ap, ◌∙◌, subst}
use mathlib.Core.Logic.{◌⊎◌, inl, inr, ⊎_elim}
use Prim.Native.Nat.{ℕ, zero, suc, ◌+◌, ◌-◌, ◌*◌, ◌%◌, ◌^◌, ◌≤◌, ◌<◌, zero-le}
use native.Mathlib.Nat.{le_trans, le_of_eq, le_of_lt, lt_of_lt_of_le, lt_of_le_of_lt, lt_of_not-le, not-le_of_lt, lt_irrefl, mul-one, one-mul, mul_assoc, mul_right_comm, mul-mul-mul_comm, add-mul, suc-mul, mul-pos, mul-le-mul_right, mul-le-mul_left, mul-lt-mul_of_pos_right, lt_of_mul-lt-mul_right, zero-mul, div-lt_iff_lt-mul}
use native.Mathlib.Omega.{arith}
use mathlib.Core.Bool.{Bool, true, false, not, ◌&&◌, true≢false}
use lib.IntN.{ℤ, pos, negsuc}
use lib.Dec.{T, leb, ltb, eqb, leb→le, ltb→lt, nltb→le, eqb→eq, lit≤, lit<}
use lib.Pow.{pow-add, pow_pos, pow_mono, pow-lt, shl_lt}
use lib.Ieee.{Float, nan, inf, fin, binary64, up, down, size, fits}
use lib.Ieee.Digits.{size-lt, size-le, size_reaches, back}
use lib.Ieee.Fits.{up_pos, down_pos, and_l, and_r}
use lib.Ieee.Exact.{HasValue}
use Rattle.scoring.specs.Units.{in_units, plain}
use Rattle.scoring.proofs.Squares.{square_mono}
use Rattle.scoring.proofs.Doubles.{in_units_is}
use Rattle.scoring.proofs.Rooting.{Root, Halved, Radicand, even_radicand, odd_radicand}

pub square_lt : {a b : ℕ} → a < b → a * a < b * b
square_lt {a} {b} h = lt_of_le_of_lt (mul-le-mul_left a (le_of_lt h)) (mul-lt-mul_of_pos_right h (lt_of_le_of_lt zero-le h))

pub here_or_on : (a b : ℕ) → (a < b) ⊎ (b ≤ a)
here_or_on a b = go (ltb a b) (ltb→lt a b) (nltb→le a b)
  where
    go : (t : Bool) → (T t → a < b) → (T (not t) → b ≤ a) → (a < b) ⊎ (b ≤ a)
    go true h k = inl (h tt)
    go false h k = inr (k tt)

-- ---- a double is m * 2 ^ h units, m of 53 digits
abbrev pub Shape : Float → Type 0
Shape y = (m : ℕ) × (h : ℕ) × (m < 2 ^ 53) × (in_units y ≡ m * 2 ^ h) × HasValue y false (in_units y) (2 ^ 1074)

pub power : (m : ℕ) (e : ℤ) → down e ≤ 2 ^ 1074 → (h : ℕ) × (m * up e * 2 ^ 1074 ≡ m * 2 ^ h * down e)
power m (pos j) l = (j + 1074, mul_assoc m (2 ^ j) (2 ^ 1074) ∙ ap (λ (z : ℕ). m * z) (sym (pow-add 2 j 1074)) ∙ sym (mul-one (m * 2 ^ (j + 1074))))
power m (negsuc j) l =
    let g : suc j ≤ 1074 = le_of_not (suc j) 1074 (λ (z : 1074 < suc j). not-le_of_lt (pow-lt z) l) in
    (1074 - suc j, ap (λ (z : ℕ). z * 2 ^ 1074) (mul-one m) ∙ ap (λ (z : ℕ). m * 2 ^ z) (sym (back 1074 (suc j) g)) ∙ ap (λ (z : ℕ). m * z) (pow-add 2 (1074 - suc j) (suc j)) ∙ sym (mul_assoc m (2 ^ (1074 - suc j)) (2 ^ suc j)))
  where
    le_of_not : (a b : ℕ) → (b < a → ⊥) → a ≤ b
    le_of_not a b f = elim (here_or_on b a) [ inl h ↦ absurd (f h) | inr h ↦ h ]

pub shaped : (m : ℕ) (e : ℤ) → m < 2 ^ 53 → down e ≤ 2 ^ 1074 → Shape (fin false m e)
shaped m e s l =
    let p = power m e l in
    let u : in_units (fin false m e) ≡ m * 2 ^ p.0 = in_units_is m e (m * 2 ^ p.0) p.1 in
    (m, p.0, s, u, (refl, p.1 ∙ ap (λ (z : ℕ). z * down e) (sym u)))

pub down_le : (m : ℕ) (e : ℤ) → T (plain (fin false (suc m) e)) → down e ≤ 2 ^ 1074
unfolding fits
down_le m e t =
    let a : Bool = eqb (suc m % 2) 1 && ltb (suc m) (2 ^ 53) in
    let c : Bool = leb (down e) (2 ^ 1074) in
    let d : Bool = ltb (suc m * up e) (2 ^ 1024 * down e) in
    leb→le (down e) (2 ^ 1074) (and_r a c (and_l (a && c) d t))

pub shape : (y : Float) → T (plain y) → Shape y
unfolding fits
shape nan t = absurd t
shape (inf s) t = absurd t
shape (fin true m e) t = absurd t
shape (fin false zero e) t =
    shaped zero e (lit< tt) (le_trans (le_of_eq (sym (one-mul (down e)))) (le_trans (mul-le-mul_right (down e) (up_pos e)) (le_trans (le_of_eq (eqb→eq (up e * down e) 1 t)) (lit≤ tt))))
shape (fin false (suc m) e) t =
    let a : Bool = eqb (suc m % 2) 1 in
    let b : Bool = ltb (suc m) (2 ^ 53) in
    let c : Bool = leb (down e) (2 ^ 1074) in
    let d : Bool = ltb (suc m * up e) (2 ^ 1024 * down e) in
    shaped (suc m) e (ltb→lt (suc m) (2 ^ 53) (and_r a b (and_l (a && b) c (and_l (a && b && c) d t)))) (leb→le (down e) (2 ^ 1074) (and_r (a && b) c (and_l (a && b && c) d t)))

-- ---- from 2 ^ 52 * 2 ^ g units on, doubles are multiples of 2 ^ g
pub multiple : (m h g : ℕ) → m < 2 ^ 53 → 2 ^ (52 + g) ≤ m * 2 ^ h → (k : ℕ) × (m * 2 ^ h ≡ k * 2 ^ g)
multiple m h g s l =
    let lt : 52 + g < 53 + h = lt_of_not-le (λ (z : 53 + h ≤ 52 + g). lt_irrefl (2 ^ (52 + g)) (lt_of_le_of_lt l (lt_of_lt_of_le (shl_lt 53 h s) (pow_mono z)))) in
    let le : g ≤ h = omega arith in
    (m * 2 ^ (h - g), ap (λ (z : ℕ). m * 2 ^ z) (sym (back h g le)) ∙ ap (λ (z : ℕ). m * z) (pow-add 2 (h - g) g) ∙ sym (mul_assoc m (2 ^ (h - g)) (2 ^ g)))

module _ (n N t q g : ℕ) (e : n ≡ N * (2 ^ g * 2 ^ g)) (r : Root N t) (long : 2 ^ 53 ≤ t) (half : Halved N t q) (m h : ℕ) (s : m < 2 ^ 53) where
  q_least : 2 ^ 52 ≤ q
  q_least = ⊎_elim (λ w. omega (arith, long)) (λ w. omega (arith, long)) half

  at_least : (t * 2 ^ g) * (t * 2 ^ g) ≤ n
  at_least = le_trans (le_of_eq (mul-mul-mul_comm t (2 ^ g) t (2 ^ g))) (le_trans (mul-le-mul_right (2 ^ g * 2 ^ g) r.0) (le_of_eq (sym e)))

  under : n < ((t + 1) * 2 ^ g) * ((t + 1) * 2 ^ g)
  under = lt_of_le_of_lt (le_of_eq e) (lt_of_lt_of_le (mul-lt-mul_of_pos_right r.1 (mul-pos (pow_pos g) (pow_pos g))) (le_of_eq (sym (mul-mul-mul_comm (t + 1) (2 ^ g) (t + 1) (2 ^ g)))))

  twice : (x : ℕ) → x ≡ 2 * q → x * 2 ^ g ≡ 2 * (q * 2 ^ g)
  twice x k = ap (λ (z : ℕ). z * 2 ^ g) k ∙ mul_assoc 2 q (2 ^ g)

  next : (x : ℕ) → (x + 1) * 2 ^ g ≡ x * 2 ^ g + 2 ^ g
  next x = add-mul x 1 (2 ^ g) ∙ ap (λ (z : ℕ). x * 2 ^ g + z) (one-mul (2 ^ g))

  -- the next double down, where q is above 2 ^ 52
  step_down : 2 ^ 52 < q → m * 2 ^ h < q * 2 ^ g → m * 2 ^ h + 2 ^ g ≤ q * 2 ^ g
  step_down Q l =
      elim (here_or_on (m * 2 ^ h) (2 ^ (52 + g))) [
        | inl a ↦
            let p : 2 ^ (52 + g) ≡ 2 ^ 52 * 2 ^ g = pow-add 2 52 g in
            let b : (2 ^ 52 + 1) * 2 ^ g ≤ q * 2 ^ g = mul-le-mul_right (2 ^ g) (omega (arith, Q)) in
            omega (arith, p, b, a, next (2 ^ 52))
        | inr a ↦
            let k = multiple m h g s a in
            let b : suc k.0 ≤ q = lt_of_mul-lt-mul_right (2 ^ g) (lt_of_le_of_lt (le_of_eq (sym k.1)) l) in
            le_trans (le_of_eq (ap (λ (z : ℕ). z + 2 ^ g) k.1 ∙ sym (suc-mul k.0 (2 ^ g)))) (mul-le-mul_right (2 ^ g) b)
      ]

  step_up : q * 2 ^ g < m * 2 ^ h → q * 2 ^ g + 2 ^ g ≤ m * 2 ^ h
  step_up l =
      let k = multiple m h g s (le_trans (le_of_eq (pow-add 2 52 g)) (le_trans (mul-le-mul_right (2 ^ g) q_least) (le_of_lt l))) in
      let b : suc q ≤ k.0 = lt_of_mul-lt-mul_right (2 ^ g) (lt_of_lt_of_le l (le_of_eq k.1)) in
      le_trans (le_of_eq (sym (suc-mul q (2 ^ g)))) (le_trans (mul-le-mul_right (2 ^ g) b) (le_of_eq (sym k.1)))

  pub is_below : m * 2 ^ h < q * 2 ^ g → (m * 2 ^ h + q * 2 ^ g) * (m * 2 ^ h + q * 2 ^ g) < n
  is_below l =
      ⊎_elim
      (λ w. lt_of_lt_of_le (square_lt (omega (arith, l, twice t w))) at_least)
      (λ w.
      let d = step_down (omega (arith, long, w.0)) l in
      lt_of_le_of_lt (square_mono (omega (arith, d, twice (t + 1) w.0, next t)))
      (lt_of_le_of_lt (le_of_eq (mul-mul-mul_comm t (2 ^ g) t (2 ^ g))) (lt_of_lt_of_le (mul-lt-mul_of_pos_right w.1 (mul-pos (pow_pos g) (pow_pos g))) (le_of_eq (sym e)))))
      half

  pub is_above : q * 2 ^ g < m * 2 ^ h → n < (m * 2 ^ h + q * 2 ^ g) * (m * 2 ^ h + q * 2 ^ g)
  is_above l =
      ⊎_elim
      (λ w. lt_of_lt_of_le under (square_mono (omega (arith, step_up l, twice t w, next t))))
      (λ w. lt_of_lt_of_le under (square_mono (omega (arith, l, twice (t + 1) w.0))))
      half

-- ---- a positive double's units, with 53 digits
module _ (x h : ℕ) (P : 0 < x) (s : x < 2 ^ 53) where
  used : 0 < size x
  used = elim (here_or_on 0 (size x)) [ inl a ↦ a | inr a ↦ absurd (not-le_of_lt (lt_of_lt_of_le (size-lt x) (pow_mono a)) P) ]

  spare : ℕ
  spare = 53 - size x

  at_most : size x ≤ 53
  at_most = size-le x 53 s

  fills : size x + spare ≡ 53
  unfolding spare
  fills = omega (arith, at_most)

  fills_less : size x - 1 + spare ≡ 52
  unfolding spare
  fills_less = omega (arith, at_most, used)

  left : spare + (h + 1022 - spare) ≡ h + 1022
  unfolding spare
  left = omega arith

  pub widened : (m : ℕ) × (e : ℕ) × (2 ^ 52 ≤ m) × (m < 2 ^ 53) × (x * 2 ^ h * 2 ^ 1022 ≡ m * 2 ^ e)
  widened = (
    x * 2 ^ spare,
    h + 1022 - spare,
    le_trans (le_of_eq (ap (λ (z : ℕ). 2 ^ z) (sym fills_less) ∙ pow-add 2 (size x - 1) spare)) (mul-le-mul_right (2 ^ spare) (size_reaches x (size x - 1) (pred_lt (size x) used))),
    lt_of_lt_of_le (shl_lt (size x) spare (size-lt x)) (le_of_eq (ap (λ (z : ℕ). 2 ^ z) fills)),
    mul_assoc x (2 ^ h) (2 ^ 1022)
        ∙ ap (λ (z : ℕ). x * z) (sym (pow-add 2 h 1022) ∙ ap (λ (z : ℕ). 2 ^ z) (sym left) ∙ pow-add 2 spare (h + 1022 - spare))
        ∙ sym (mul_assoc x (2 ^ spare) (2 ^ (h + 1022 - spare))),
  )
    where
      pred_lt : (z : ℕ) → 0 < z → z - 1 < z
      pred_lt z k = omega arith

pub in_format : (y : Float) → T (plain y) → in_units y < 2 ^ 2098
unfolding fits
in_format nan t = absurd t
in_format (inf s) t = absurd t
in_format (fin true m e) t = absurd t
in_format (fin false zero e) t = subst (λ (z : ℕ). z < 2 ^ 2098) (sym (in_units_is 0 e 0 (ap (λ (z : ℕ). z * 2 ^ 1074) (zero-mul (up e)) ∙ sym (zero-mul (down e))))) (pow_pos 2098)
in_format (fin false (suc m) e) t =
    let a : Bool = eqb (suc m % 2) 1 && ltb (suc m) (2 ^ 53) && leb (down e) (2 ^ 1074) in
    let d : Bool = ltb (suc m * up e) (2 ^ 1024 * down e) in
    (div-lt_iff_lt-mul (down_pos e)).1 (lt_of_lt_of_le (mul-lt-mul_of_pos_right (ltb→lt (suc m * up e) (2 ^ 1024 * down e) (and_r a d t)) (pow_pos 1074)) (le_of_eq (mul_right_comm (2 ^ 1024) (down e) (2 ^ 1074))))

pub exponent : (X m e : ℕ) → X < 2 ^ 2098 → 2 ^ 52 ≤ m → X * 2 ^ 1022 ≡ m * 2 ^ e → e < 3068
exponent X m e u l k =
    low e
    (lt_of_not-le (λ (z : 3120 ≤ 52 + e).
    lt_irrefl (2 ^ 3120) (lt_of_le_of_lt (pow_mono z) (lt_of_le_of_lt (le_of_eq (pow-add 2 52 e)) (lt_of_le_of_lt (mul-le-mul_right (2 ^ e) l) (lt_of_le_of_lt (le_of_eq (sym k)) (mul-lt-mul_of_pos_right u (pow_pos 1022))))))))
  where
    low : (e : ℕ) → 52 + e < 3120 → e < 3068
    low e h = omega arith

pub parity : (m e : ℕ) → 2 ^ 52 ≤ m → m < 2 ^ 53 → (a : ℕ) × Radicand m e a
parity m e l u = go (e % 2) refl
  where
    go : (d : ℕ) → e % 2 ≡ d → (a : ℕ) × Radicand m e a
    go zero k = (m, even_radicand m e l u (λ (z : e % 2 ≡ 1). omega arith))
    go (suc d) k = (m * 2, odd_radicand m e l u (omega arith))

pub plain_of : (z : Float) (a : ℕ) → HasValue z false a (2 ^ 1074) → T (fits binary64 z) → T (plain z) × (in_units z ≡ a)
plain_of nan a v F = absurd v
plain_of (inf s) a v F = absurd v
plain_of (fin true m e) a v F = absurd (true≢false v.0)
plain_of (fin false m e) a v F = (F, in_units_is m e a v.1)
