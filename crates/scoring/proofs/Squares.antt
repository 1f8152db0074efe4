-- Squares of whole numbers, and the two steps by which the code closes in on a root.
use mathlib.Core.Path.{◌≡◌, refl, ap}
use mathlib.Core.Bool.{Bool, true, false, not}
use lib.Dec.{T, leb, leb→le, nleb→lt}
use Prim.Native.Nat.{ℕ, zero, suc, ◌+◌, ◌-◌, ◌*◌, ◌/◌, ◌%◌, ◌^◌, ◌≤◌, ◌<◌}
use native.Mathlib.Nat.{lt_of_le_of_lt, lt_of_not-le, le_of_suc-le-suc, not-le_of_lt, mul-le-mul, mul-le-mul_left, mul-le-mul_right, mul-add, add-mul, mul_assoc, mul_left_comm, mod-lt, div-add-mod'}
use native.Mathlib.Omega.{arith}
use Rattle.scoring.specs.Whole.{Within, Step}

pub square_mono : {a b : ℕ} → a ≤ b → a * a ≤ b * b
square_mono h = mul-le-mul h h

pub below_root : {a b : ℕ} → a * a < b * b → a < b
below_root {a} {b} h = lt_of_not-le (λ (g : b ≤ a). not-le_of_lt h (square_mono g))

pub square_double : (s : ℕ) → (2 * s) * (2 * s) ≡ 4 * (s * s)
square_double s = simp (mul_assoc, mul_left_comm) (omega arith)

pub square_next : (s : ℕ) → (s + 1) * (s + 1) ≡ s * s + 2 * s + 1
square_next s = simp (mul-add, add-mul) (omega arith)

pub square_odd : (s : ℕ) → (2 * s + 1) * (2 * s + 1) ≡ 4 * (s * s) + 4 * s + 1
square_odd s = omega (arith, square_next (2 * s), square_double s)

-- ---- the chord between t and t + e

-- a product is at most the square of half the sum
product_most : (x y : ℕ) → 4 * (x * y) ≤ (x + y) * (x + y)
product_most x y = go (leb x y) (leb→le x y) (nleb→lt x y)
  where
    rising : (a d : ℕ) → 4 * (a * (a + d)) ≤ (a + (a + d)) * (a + (a + d))
    rising a d = omega arith

    go : (b : Bool) → (T b → x ≤ y) → (T (not b) → y < x) → 4 * (x * y) ≤ (x + y) * (x + y)
    go true h k = let l = h tt in let e : y ≡ x + (y - x) = omega arith in rw e (rising x (y - x))
    go false h k = let l = k tt in let e : x ≡ y + (x - y) = omega arith in let g = rising y (x - y) in rw e (omega arith)

module _ (n t e q u : ℕ) (parts : t * t + (q * (2 * t + e) + u) ≡ n) (rest : u < 2 * t + e) (within : Within n t e) where
  -- the chord does not reach t + e
  short : q < e
  short = lt_of_not-le (λ (g : e ≤ q). let h : e * (2 * t + e) ≤ q * (2 * t + e) = mul-le-mul_right (2 * t + e) g in let k = within.1 in let f : ⊥ = omega arith in f)

  met_below : (t + q) * (t + q) ≤ n
  met_below = let k : q ≤ e = omega (arith, short) in let h : q * q ≤ e * q = mul-le-mul_right q k in omega arith

  met_above : (f : ℕ) → e * e ≤ 4 * f * (2 * t + e) → n < (t + q + (f + 1)) * (t + q + (f + 1))
  met_above f h =
      lt_of_not-le
      (λ (g : (t + q + (f + 1)) * (t + q + (f + 1)) ≤ n).
      let k : t + q + (f + 1) < t + e = below_root (lt_of_le_of_lt g within.1) in
      let y = e - (q + f + 1) in
      let s : e ≡ q + f + 1 + y = omega arith in
      let m = product_most (q + f + 1) y in
      let w : e * e ≡ (q + f + 1 + y) * (q + f + 1 + y) = ap (λ (z : ℕ). z * z) s in
      let v : f * (2 * t + e) < (q + f + 1) * y = past y s g in
      omega arith)
    where
      past : (y : ℕ) → e ≡ q + f + 1 + y → (t + q + (f + 1)) * (t + q + (f + 1)) ≤ n → f * (2 * t + e) < (q + f + 1) * y
      past y s g = let w : (q + f + 1) * e ≡ (q + f + 1) * (q + f + 1 + y) = ap (λ (z : ℕ). (q + f + 1) * z) s in omega arith

module _ (n t e : ℕ) (low : 1 ≤ t) (within : Within n t e) where
  divided : t * t + ((n - t * t) / (2 * t + e) * (2 * t + e) + (n - t * t) % (2 * t + e)) ≡ n
  divided = let h = within.0 in omega (arith, div-add-mod' (n - t * t) (2 * t + e))

  rest_small : (n - t * t) % (2 * t + e) < 2 * t + e
  rest_small = mod-lt (n - t * t) (omega arith)

  pub chord_short : (n - t * t) / (2 * t + e) < e
  chord_short = short n t e ((n - t * t) / (2 * t + e)) ((n - t * t) % (2 * t + e)) divided rest_small within

  pub chord : (f : ℕ) → e * e ≤ 4 * f * (2 * t + e) → Within n (t + (n - t * t) / (2 * t + e)) (f + 1)
  chord f h =
      let q = (n - t * t) / (2 * t + e) in
      let u = (n - t * t) % (2 * t + e) in
      (met_below n t e q u divided rest_small within, met_above n t e q u divided rest_small within f h)

-- ---- one step to the whole part

pub not_none : (q u : ℕ) → u < q * q → 1 ≤ q
not_none zero u h = let f : ⊥ = omega arith in absurd f
not_none (suc q) u h = omega arith

module _ {n t p q u : ℕ} (s : Step n t p q u) where
  -- q is no more than p
  pub step_short : q ≤ p
  step_short =
      let d = s.parts in
      let k = s.within.1 in
      let m = s.near in
      le_of_suc-le-suc
      (lt_of_not-le
      (λ (g : suc p ≤ q).
      let h : 2 * t * suc p ≤ 2 * t * q = mul-le-mul_left (2 * t) g in
      let l = s.rest in
      let f : ⊥ = omega arith in
      f))

  pub settled_all : q * q ≤ u → Within n (t + q) 1
  settled_all h = let d = s.parts in let r = s.rest in (omega arith, omega arith)

  pub settled_less : u < q * q → Within n (t + q - 1) 1
  settled_less h = less q refl
    where
      less : (k : ℕ) → q ≡ k → Within n (t + k - 1) 1
      less zero e = let l = not_none q u h in let f : ⊥ = omega arith in absurd f
      less (suc k) e =
          let d : t * t + (2 * t * suc k + u) ≡ n = rw e at s.parts in
          let g : u < suc k * suc k = rw e at h in
          let i : suc k ≤ p = rw e at step_short in
          let m : k * k ≤ p * p = square_mono (omega arith) in
          let r = s.near in
          let l : t + suc k - 1 ≡ t + k = omega arith in
          rw l (omega arith, omega arith)

-- ---- bounds of a root

pub root_below : (n s b : ℕ) → s * s ≤ n → n < b * b → s < b
root_below n s b h k = below_root (lt_of_le_of_lt h k)

pub root_least : (n s b : ℕ) → b * b ≤ n → n < (s + 1) * (s + 1) → b ≤ s
root_least n s b h k = let l : b < s + 1 = below_root (lt_of_le_of_lt h k) in omega arith

-- the step that ends the root of a
pub ended : (a t : ℕ) → 2 ^ 26 ≤ t → Within a t (2 ^ 13) → Step a t (2 ^ 13) ((a - t * t) / (2 * t)) ((a - t * t) % (2 * t))
ended a t l h =
    let d = div-add-mod' (a - t * t) (2 * t) in
    let g = h.0 in
    record { parts = omega arith; rest = mod-lt (a - t * t) (omega arith); within = h; near = omega arith }

-- and the step to 27 digits more, from the root s of a
pub widened : (a s : ℕ) → 2 ^ 26 ≤ s → Within a s 1 → Step (a * 2 ^ 54) (s * 2 ^ 27) (2 ^ 27) ((a - s * s) * 2 ^ 26 / s) ((a - s * s) * 2 ^ 26 % s * 2 ^ 28)
widened a s l h =
    let d = div-add-mod' ((a - s * s) * 2 ^ 26) s in
    let r : (a - s * s) * 2 ^ 26 % s < s = mod-lt ((a - s * s) * 2 ^ 26) (omega arith) in
    let low = h.0 in
    let high = h.1 in
    record { parts = omega arith; rest = omega arith; within = (omega arith, omega arith); near = omega arith }
