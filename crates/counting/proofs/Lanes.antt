-- Words as 64 lanes: the bits of an or, of an and and of a xor, and of a word of ones.
use mathlib.Core.Path.{◌≡◌, sym, ap, ◌∙◌}
use Prim.Native.Nat.{ℕ, zero, suc, ◌+◌, ◌-◌, ◌*◌, ◌/◌, ◌%◌, ◌^◌, ◌≤◌, ◌<◌, min, max}
use native.Mathlib.Omega.{arith}
use native.Mathlib.Decide.{dec_lt}
use native.Mathlib.Nat.{mod-lt, mod-eq_of_lt, div-eq_of_lt, zero-div, zero-mod, zero-lt-suc, pow-suc, mul-mod_left, mul_assoc, mul_comm, lt_of_lt_of_le}
use lib.Arith.{digits_mod}
use lib.Bits.{bit_and, bit_or, bit_xor, differ, and_shr, and_step, or_shr, or_step, xor_shr, xor_step}
use lib.Pow.{pow_pos, pow-add, pow_mono, shl-shr, shl_lt, shr-shr, high, ones_lt, ones_split}
use Rattle.counting.specs.Block.{bit_at}

pub bit_lt : (w j : ℕ) → bit_at w j < 2
bit_lt w j = mod-lt (w / 2 ^ j) (zero-lt-suc 1)

pub bit_zero : (j : ℕ) → bit_at 0 j ≡ 0
bit_zero j = ap (λ (n : ℕ). n % 2) (zero-div (2 ^ j)) ∙ zero-mod 2

-- ---- a bit of an operation is the operation on the bits

pub bit_of_or : (a b l : ℕ) → bit_at (bit_or a b) l ≡ max (bit_at a l) (bit_at b l)
bit_of_or a b l =
    let p = a / 2 ^ l in
    let q = b / 2 ^ l in
    let low : max (bit_at a l) (bit_at b l) < 2 = omega (arith, bit_lt a l, bit_lt b l) in
    ap (λ (x : ℕ). x % 2) (or_shr a b l ∙ or_step p q) ∙ digits_mod (bit_or (p / 2) (q / 2)) low

pub bit_of_and : (a b l : ℕ) → bit_at (bit_and a b) l ≡ min (bit_at a l) (bit_at b l)
bit_of_and a b l =
    let p = a / 2 ^ l in
    let q = b / 2 ^ l in
    let low : min (bit_at a l) (bit_at b l) < 2 = omega (arith, bit_lt a l, bit_lt b l) in
    ap (λ (x : ℕ). x % 2) (and_shr a b l ∙ and_step p q) ∙ digits_mod (bit_and (p / 2) (q / 2)) low

differ_lt : (x y : ℕ) → x < 2 → y < 2 → differ x y < 2
differ_lt zero y p q = q
differ_lt (suc zero) zero p q = p
differ_lt (suc zero) (suc y) p q = omega arith
differ_lt (suc (suc x)) zero p q = omega arith
differ_lt (suc (suc x)) (suc y) p q = omega arith

pub bit_of_xor : (a b l : ℕ) → bit_at (bit_xor a b) l ≡ differ (bit_at a l) (bit_at b l)
bit_of_xor a b l =
    let p = a / 2 ^ l in
    let q = b / 2 ^ l in
    ap (λ (x : ℕ). x % 2) (xor_shr a b l ∙ xor_step p q) ∙ digits_mod (bit_xor (p / 2) (q / 2)) (differ_lt (bit_at a l) (bit_at b l) (bit_lt a l) (bit_lt b l))

-- ---- one bit, moved up by k, has that bit at k

pub moved_at : (v k : ℕ) → v < 2 → bit_at (v * 2 ^ k) k ≡ v
moved_at v k h = ap (λ (n : ℕ). n % 2) (shl-shr v k) ∙ mod-eq_of_lt h

moved_below : (v j d : ℕ) → bit_at (v * 2 ^ (j + suc d)) j ≡ 0
moved_below v j d =
    let split : v * 2 ^ (j + suc d) ≡ v * 2 ^ d * 2 * 2 ^ j =
    rw (pow-add, pow-suc, mul_comm (2 ^ j) (2 ^ d * 2))
    (sym (mul_assoc v (2 ^ d * 2) (2 ^ j)) ∙ ap (λ (n : ℕ). n * 2 ^ j) (sym (mul_assoc v (2 ^ d) 2))) in
    ap (λ (n : ℕ). n / 2 ^ j % 2) split ∙ ap (λ (n : ℕ). n % 2) (shl-shr (v * 2 ^ d * 2) j) ∙ mul-mod_left (v * 2 ^ d) 2

moved_above : (v k j : ℕ) → v < 2 → k < j → bit_at (v * 2 ^ k) j ≡ 0
moved_above v k j h up =
    let small : v * 2 ^ k < 2 ^ j = lt_of_lt_of_le (shl_lt 1 k h) (pow_mono (omega arith)) in
    ap (λ (n : ℕ). n % 2) (div-eq_of_lt small) ∙ zero-mod 2

-- .. and none elsewhere
pub moved_off : (v k j : ℕ) → v < 2 → (j ≡ k → ⊥) → bit_at (v * 2 ^ k) j ≡ 0
moved_off v k j h other = by_order (dec_lt j k)
  where
    by_order : Dec (j < k) → bit_at (v * 2 ^ k) j ≡ 0
    by_order (yes below) =
        let far : k ≡ j + suc (k - j - 1) = omega arith in
        ap (λ (n : ℕ). bit_at (v * 2 ^ n) j) far ∙ moved_below v j (k - j - 1)
    by_order (no above) = moved_above v k j h (omega arith)

-- ---- a number whose first s bits were cleared has the others

pub cleared_below : (w s l : ℕ) → l < s → bit_at (w / 2 ^ s * 2 ^ s) l ≡ 0
cleared_below w s l h =
    let far : s ≡ l + suc (s - l - 1) = omega arith in
    ap (λ (n : ℕ). bit_at (w / 2 ^ s * 2 ^ n) l) far ∙ moved_below (w / 2 ^ s) l (s - l - 1)

pub cleared_above : (w s l : ℕ) → s ≤ l → bit_at (w / 2 ^ s * 2 ^ s) l ≡ bit_at w l
cleared_above w s l h =
    let d = l - s in
    let far : s + d ≡ l = omega arith in
    rw (← far) (ap (λ (n : ℕ). n % 2)
    (sym (shr-shr (w / 2 ^ s * 2 ^ s) s d) ∙ ap (λ (n : ℕ). n / 2 ^ d) (shl-shr (w / 2 ^ s) s) ∙ shr-shr w s d))

-- ---- every bit of a word of ones is 1

bit_ones_at : (j l : ℕ) → bit_at (2 ^ (suc j + l) - 1) l ≡ 1
bit_ones_at j l =
    ap (λ (x : ℕ). x / 2 ^ l % 2) (ones_split (suc j) l)
    ∙ ap (λ (x : ℕ). x % 2) (high (2 ^ suc j - 1) l (ones_lt l))
    ∙ rw pow-suc (omega (arith, pow_pos j))

pub bit_ones : (k l : ℕ) → l < k → bit_at (2 ^ k - 1) l ≡ 1
bit_ones k l h = let e : suc (k - l - 1) + l ≡ k = omega arith in rw (← e) (bit_ones_at (k - l - 1) l)
