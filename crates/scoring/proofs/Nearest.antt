-- `root` is right at every double (`RootIsRight`): of a positive one it is the double nearest the exact root. And nothing else is (`RootIsAlone`).
use mathlib.Core.Path.{◌≡◌, refl, sym, ap, ◌∙◌, subst}
use mathlib.Core.Logic.{inl, inr}
use Prim.Native.Nat.{ℕ, zero, suc, ◌+◌, ◌*◌, ◌/◌, ◌^◌, ◌≤◌, ◌<◌}
use native.Mathlib.Nat.{le_trans, le_of_eq, le_of_lt, lt_of_lt_of_le, lt_irrefl, le_antisymm, add_comm}
use native.Mathlib.Omega.{arith}
use mathlib.Core.Bool.{true, false}
use lib.IntN.{ℤ}
use lib.Dec.{T, lt→ltb}
use lib.Pow.{pow_pos}
use lib.Ieee.{Float, nan, inf, fin, binary64, fits}
use lib.Ieee.Exact.{HasValue}
use lib.Ieee.Positive.{first_pos, value_pos}
use Rattle.scoring.specs.Units.{isqrt, in_units, plain, root_of}
use Rattle.scoring.specs.Root.{root, IsRoot, RootIsRight, RootIsAlone}
use Rattle.scoring.proofs.Doubles.{value_unique}
use Rattle.scoring.proofs.Rooting.{Root, Halved, isqrt_is, long_root, no_carry, halved, same_number, root_of_value, root_of_fits, fewer, half_high, range}
use Rattle.scoring.proofs.Patterns.{root_positive}
use Rattle.scoring.proofs.Shapes.{here_or_on, shape, widened, in_format, exponent, parity, plain_of, is_below, is_above}

held : (y : Float) → T (plain y) → T (fits binary64 y)
held nan t = absurd t
held (inf s) t = absurd t
held (fin true m e) t = absurd t
held (fin false m e) t = t

-- above zero: the nearest
pub root_is_nearest : (x : Float) → T (plain x) → 0 < in_units x → IsRoot x (root x)
root_is_nearest x p P =
    let X = in_units x in
    let v = shape x p in
    let w = widened v.0 v.1 (first_pos v.0 (2 ^ v.1) (lt_of_lt_of_le P (le_of_eq v.3))) v.2 in
    let m = w.0 in
    let e = w.1 in
    let k : X * 2 ^ 1022 ≡ m * 2 ^ e = ap (λ (z : ℕ). z * 2 ^ 1022) v.3 ∙ w.4 in
    let E : e < 3068 = exponent X m e (in_format x p) w.2 k in
    let A = parity m e w.2 w.3 in
    let a = A.0 in
    let N = a * 2 ^ 54 in
    let t = isqrt N in
    let r : Root N t = isqrt_is N in
    let q = (t + 1) / 2 in
    let g = e / 2 in
    let long : 2 ^ 53 ≤ t = long_root a t A.1.0 r in
    let c = no_carry a t A.1.1 r in
    let n : X * 2 ^ 1076 ≡ N * (2 ^ g * 2 ^ g) = same_number X m e a k A.1 in
    let H : Halved N t q = halved a t r in
    let vr : HasValue (root_of X) false (q * 2 ^ g) (2 ^ 1074) = root_of_value X N t q g n r long (fewer t c) H (half_high t c) (range e E) in
    let R = plain_of (root_of X) (q * 2 ^ g) vr (root_of_fits X) in
    subst (λ (z : Float). IsRoot x z) (sym (root_positive x X (held x p) v.4 P))
    (record {
      double = R.0;
      below = λ y Y l.
          let s = shape y Y in
          rw (R.1, s.3) (is_below (X * 2 ^ 1076) N t q g n r long H s.0 s.1 s.2 (rw (R.1, s.3) at l));
      above = λ y Y l.
          let s = shape y Y in
          rw (R.1, s.3) (is_above (X * 2 ^ 1076) N t q g n r long H s.0 s.1 s.2 (rw (R.1, s.3) at l));
    })

-- no other double is
pub nearest_is_one : (x r s : Float) → IsRoot x r → IsRoot x s → r ≡ s
nearest_is_one x r s i j =
    let same : in_units r ≡ in_units s = le_antisymm (not_above s r j i) (not_above r s i j) in
    value_unique r s (in_units s) (held r i.double) (held s j.double) (subst (λ (z : ℕ). HasValue r false z (2 ^ 1074)) same (shape r i.double).4) (shape s j.double).4
  where
    not_above : (a b : Float) → IsRoot x a → IsRoot x b → in_units b ≤ in_units a
    not_above a b u v =
        elim (here_or_on (in_units a) (in_units b)) [
          | inl h ↦
              absurd (lt_irrefl (in_units x * 2 ^ 1076)
              (lt_of_lt_of_le (u.above b v.double h)
              (le_trans (le_of_eq (ap (λ (z : ℕ). z * z) (add_comm (in_units b) (in_units a)))) (le_of_lt (v.below a u.double h)))))
          | inr h ↦ h
        ]

-- ---- at every double
above_zero : (m : ℕ) (e : ℤ) → T (fits binary64 (fin false (suc m) e)) → 0 < in_units (fin false (suc m) e)
above_zero m e F = value_pos (fin false (suc m) e) (in_units (fin false (suc m) e)) (2 ^ 1074) (lt→ltb 0 (suc m) (omega arith)) (pow_pos 1074) (shape (fin false (suc m) e) F).4

pub root_is_right : RootIsRight
unfolding root
root_is_right nan F = refl
root_is_right (inf true) F = refl
root_is_right (inf false) F = refl
root_is_right (fin s zero e) F = refl
root_is_right (fin true (suc m) e) F = refl
root_is_right (fin false (suc m) e) F = root_is_nearest (fin false (suc m) e) F (above_zero m e F)

pub root_is_alone : RootIsAlone
unfolding root
root_is_alone nan r F h = h
root_is_alone (inf true) r F h = h
root_is_alone (inf false) r F h = h
root_is_alone (fin s zero e) r F h = h
root_is_alone (fin true (suc m) e) r F h = h
root_is_alone (fin false (suc m) e) r F h = nearest_is_one (fin false (suc m) e) r (root (fin false (suc m) e)) h (root_is_right (fin false (suc m) e) F)
