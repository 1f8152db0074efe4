-- lib.Ieee's `lt` on numbers, which is every value but NaN: negative ones, both zeros and both infinities too. The two laws that a search needs (`asym`, `co`), and what it means that
-- neither of two is less.
use mathlib.Core.Path.{◌≡◌, refl, sym, ap, subst, ◌∙◌}
use mathlib.Core.Logic.{◌⊎◌, inl, inr}
use Prim.Native.Nat.{ℕ, zero, suc, ◌+◌, ◌*◌, ◌^◌, ◌≤◌, ◌<◌}
use native.Mathlib.Nat.{mul-pos, zero-mul, mul_assoc, le_trans, le_of_eq, lt_of_le_of_lt, lt_of_lt_of_le, mul_right_comm, mul-le-mul_right, mul-lt-mul_of_pos_right, lt_of_mul-lt-mul_right, eq_of_mul-eq-mul_right}
use native.Mathlib.Omega.{arith}
use mathlib.Core.Bool.{Bool, true, false, not, ◌||◌, beq}
use lib.Dec.{T, eqb, ltb→lt, lt→ltb, nltb→le, eqb→eq, not_T}
use lib.IntN.{ℤ, pos}
use lib.Ieee.{Float, nan, inf, fin, binary64, up, down, lt, eq, is_nan, fits, below, level}
use lib.Ieee.Fits.{down_pos, and_i, and_l, and_r, eq→eqb}
use lib.Ieee.Exact.{HasValue}
use Rattle.scoring.specs.Units.{in_units}
use Rattle.scoring.specs.Score.{abs, Number}
use Rattle.scoring.proofs.Doubles.{value_unique}
use Rattle.scoring.proofs.Shapes.{shape}
use Rattle.scoring.proofs.Sign.{abs_fits, abs_number, abs_again}

-- ---- fractions: a / da < c / dc, with b / db between or beside them
through_low : (a b c da db dc : ℕ) → 0 < db → a * dc < c * da → b * da ≤ a * db → b * dc < c * db
through_low a b c da db dc D h k =
    let x : b * dc * da ≤ a * dc * db = le_trans (le_of_eq (mul_right_comm b dc da)) (le_trans (mul-le-mul_right dc k) (le_of_eq (mul_right_comm a db dc))) in
    let y : a * dc * db < c * db * da = lt_of_lt_of_le (mul-lt-mul_of_pos_right h D) (le_of_eq (mul_right_comm c da db)) in
    lt_of_mul-lt-mul_right da (lt_of_le_of_lt x y)

through_high : (a b c da db dc : ℕ) → 0 < db → c * da < a * dc → a * db ≤ b * da → c * db < b * dc
through_high a b c da db dc D h k =
    let x : c * db * da < a * db * dc = lt_of_le_of_lt (le_of_eq (mul_right_comm c db da)) (lt_of_lt_of_le (mul-lt-mul_of_pos_right h D) (le_of_eq (mul_right_comm a dc db))) in
    let y : a * db * dc ≤ b * dc * da = le_trans (mul-le-mul_right dc k) (le_of_eq (mul_right_comm b da dc)) in
    lt_of_mul-lt-mul_right da (lt_of_lt_of_le x y)

-- 0 < x / d where 0 < x / d'
above_zero : (x d d' : ℕ) → 0 < d → 0 < x * d' → 0 < x * d
above_zero zero d d' D h = absurd (omega (arith, zero-mul d'))
above_zero (suc x) d d' D h = mul-pos (omega arith) D

at_zero : (x d d' : ℕ) → 0 < d → x * d ≤ 0 → x * d' ≤ 0
at_zero zero d d' D h = omega (arith, zero-mul d')
at_zero (suc x) d d' D h = absurd (omega (arith, mul-pos {m = suc x} {n = d} (omega arith) D))

either_above : (x y : ℕ) → 0 < x + y → (0 < x) ⊎ (0 < y)
either_above zero y h = inr (omega arith)
either_above (suc x) y h = inl (omega arith)

-- ---- magnitudes with their signs
below_asym : (s t : Bool) (a b : ℕ) → T (below s a t b) → T (below t b s a) → ⊥
below_asym false false a b h k = omega (arith, ltb→lt a b h, ltb→lt b a k)
below_asym false true a b h k = h
below_asym true false a b h k = k
below_asym true true a b h k = omega (arith, ltb→lt b a h, ltb→lt a b k)

below_co : (s t u : Bool) (a b c da db dc : ℕ) → 0 < da → 0 < db → 0 < dc
    → T (below s (a * dc) u (c * da)) → T (not (below s (a * db) t (b * da))) → T (below t (b * dc) u (c * db))
below_co false false false a b c da db dc A B C h k = lt→ltb (b * dc) (c * db) (through_low a b c da db dc B (ltb→lt (a * dc) (c * da) h) (nltb→le (a * db) (b * da) k))
below_co false false true a b c da db dc A B C h k = absurd h
below_co false true false a b c da db dc A B C h k =
    lt→ltb 0 (b * dc + c * db) (omega (arith, above_zero c db da B (omega (arith, ltb→lt (a * dc) (c * da) h))))
below_co false true true a b c da db dc A B C h k = absurd h
below_co true false false a b c da db dc A B C h k =
    let z = nltb→le 0 (a * db + b * da) k in
    let p = ltb→lt 0 (a * dc + c * da) h in
    lt→ltb (b * dc) (c * db) (omega (arith, at_zero b da dc A (omega arith), above_zero c db da B (omega (arith, at_zero a db dc B (omega arith)))))
below_co true false true a b c da db dc A B C h k =
    let z = nltb→le 0 (a * db + b * da) k in
    absurd (omega (arith, ltb→lt (c * da) (a * dc) h, at_zero a db dc B (omega arith)))
below_co true true false a b c da db dc A B C h k =
    let z = nltb→le (b * da) (a * db) k in
    lt→ltb 0 (b * dc + c * db) (elim (either_above (a * dc) (c * da) (ltb→lt 0 (a * dc + c * da) h)) [
      | inl p ↦ omega (arith, above_zero b dc da C (omega (arith, above_zero a db dc B p)))
      | inr p ↦ omega (arith, above_zero c db da B p)
    ])
below_co true true true a b c da db dc A B C h k =
    lt→ltb (c * db) (b * dc) (through_high a b c da db dc B (ltb→lt (c * da) (a * dc) h) (nltb→le (b * da) (a * db) k))

-- ---- the order
-- `lt` holds of numbers only
pub left_number : (a b : Float) → T (lt a b) → Number a
unfolding lt is_nan
left_number nan b h = h
left_number (inf s) b h = tt
left_number (fin s m e) b h = tt

pub right_number : (a b : Float) → T (lt a b) → Number b
unfolding lt is_nan
right_number nan b h = absurd h
right_number (inf s) nan h = h
right_number (inf s) (inf t) h = tt
right_number (inf s) (fin t n d) h = tt
right_number (fin s m e) nan h = h
right_number (fin s m e) (inf t) h = tt
right_number (fin s m e) (fin t n d) h = tt

-- no two are each less than the other, be they numbers or not
pub asym : (a b : Float) → T (lt a b) → T (lt b a) → ⊥
unfolding lt
asym nan b h k = h
asym (inf s) nan h k = h
asym (inf true) (inf true) h k = h
asym (inf true) (inf false) h k = k
asym (inf false) (inf t) h k = h
asym (inf true) (fin t n d) h k = k
asym (inf false) (fin t n d) h k = h
asym (fin s m e) nan h k = h
asym (fin s m e) (inf true) h k = h
asym (fin s m e) (inf false) h k = k
asym (fin s m e) (fin t n d) h k = below_asym s t (m * up e * down d) (n * up d * down e) h k

-- a number that is not above a is below whatever a is below
pub co : (a b c : Float) → Number b → T (lt a c) → T (not (lt a b)) → T (lt b c)
unfolding lt is_nan
co a nan c B h k = absurd B
co nan (inf t) c B h k = absurd h
co nan (fin t n d) c B h k = absurd h
co (inf s) (inf t) nan B h k = absurd h
co (inf true) (inf true) (inf true) B h k = absurd h
co (inf true) (inf true) (inf false) B h k = tt
co (inf true) (inf true) (fin u p f) B h k = tt
co (inf true) (inf false) (inf u) B h k = absurd k
co (inf true) (inf false) (fin u p f) B h k = absurd k
co (inf false) (inf t) (inf u) B h k = absurd h
co (inf false) (inf t) (fin u p f) B h k = absurd h
co (inf s) (fin t n d) nan B h k = absurd h
co (inf true) (fin t n d) (inf u) B h k = absurd k
co (inf false) (fin t n d) (inf u) B h k = absurd h
co (inf true) (fin t n d) (fin u p f) B h k = absurd k
co (inf false) (fin t n d) (fin u p f) B h k = absurd h
co (fin s m e) (inf t) nan B h k = absurd h
co (fin s m e) (inf true) (inf true) B h k = absurd h
co (fin s m e) (inf true) (inf false) B h k = tt
co (fin s m e) (inf false) (inf u) B h k = absurd k
co (fin s m e) (inf true) (fin u p f) B h k = tt
co (fin s m e) (inf false) (fin u p f) B h k = absurd k
co (fin s m e) (fin t n d) nan B h k = absurd h
co (fin s m e) (fin t n d) (inf true) B h k = absurd h
co (fin s m e) (fin t n d) (inf false) B h k = tt
co (fin s m e) (fin t n d) (fin u p f) B h k =
    below_co s t u (m * up e) (n * up d) (p * up f) (down e) (down d) (down f) (down_pos e) (down_pos d) (down_pos f) h k

pub irreflexive : (a : Float) → T (lt a a) → ⊥
irreflexive a h = asym a a h h

pub transitive : (a b c : Float) → T (lt a b) → T (lt b c) → T (lt a c)
transitive a b c h k = co b a c (left_number a b h) k (not_T (lt b a) (λ (l : T (lt b a)). asym a b h l))

-- ---- neither less: equal by `eq`
below_level : (s t : Bool) (a b : ℕ) → T (not (below s a t b)) → T (not (below t b s a)) → T (level s a t b)
below_level false false a b h k =
    let z : a ≡ b = omega (arith, nltb→le a b h, nltb→le b a k) in and_i (eqb a b) true (eq→eqb z) tt
below_level false true a b h k =
    let l = nltb→le 0 (b + a) k in
    let z : a ≡ b = omega arith in
    let o : a ≡ 0 = omega arith in and_i (eqb a b) (eqb a 0) (eq→eqb z) (eq→eqb o)
below_level true false a b h k =
    let l = nltb→le 0 (a + b) h in
    let z : a ≡ b = omega arith in
    let o : a ≡ 0 = omega arith in and_i (eqb a b) (eqb a 0) (eq→eqb z) (eq→eqb o)
below_level true true a b h k =
    let z : a ≡ b = omega (arith, nltb→le b a h, nltb→le a b k) in and_i (eqb a b) true (eq→eqb z) tt

pub neither_less : (a b : Float) → Number a → Number b → T (not (lt a b)) → T (not (lt b a)) → T (eq a b)
unfolding lt eq is_nan
neither_less nan b A B h k = absurd A
neither_less (inf s) nan A B h k = absurd B
neither_less (inf true) (inf true) A B h k = tt
neither_less (inf true) (inf false) A B h k = absurd h
neither_less (inf false) (inf true) A B h k = absurd k
neither_less (inf false) (inf false) A B h k = tt
neither_less (inf true) (fin t n d) A B h k = absurd h
neither_less (inf false) (fin t n d) A B h k = absurd k
neither_less (fin s m e) nan A B h k = absurd B
neither_less (fin s m e) (inf true) A B h k = absurd k
neither_less (fin s m e) (inf false) A B h k = absurd h
neither_less (fin s m e) (fin t n d) A B h k = below_level s t (m * up e * down d) (n * up d * down e) h k

-- ---- what `eq` means of doubles: they are the same, or one is +0 and the other -0. So |x| is the same in any case.

-- one fraction in two forms: as many units
same_units : (x y de dd X Y c : ℕ) → 0 < de → 0 < dd → x * c ≡ X * de → y * c ≡ Y * dd → x * dd ≡ y * de → X ≡ Y
same_units x y de dd X Y c E D h k l =
    eq_of_mul-eq-mul_right (de * dd) (mul-pos E D) X Y
    (sym (mul_assoc X de dd) ∙ ap (λ (z : ℕ). z * dd) (sym h) ∙ mul_right_comm x c dd ∙ ap (λ (z : ℕ). z * c) l ∙ mul_right_comm y de c ∙ ap (λ (z : ℕ). z * de) k ∙ mul_right_comm Y dd de ∙ mul_assoc Y de dd)

same_magnitude : (m n : ℕ) (e d : ℤ) → T (fits binary64 (fin false m e)) → T (fits binary64 (fin false n d)) → m * up e * down d ≡ n * up d * down e → fin false m e ≡ fin false n d
same_magnitude m n e d F G l =
    let x : Float = fin false m e in
    let y : Float = fin false n d in
    let v = (shape x F).4 in
    let w = (shape y G).4 in
    value_unique x y (in_units y) F G (subst (λ (z : ℕ). HasValue x false z (2 ^ 1074)) (same_units (m * up e) (n * up d) (down e) (down d) (in_units x) (in_units y) (2 ^ 1074) (down_pos e) (down_pos d) v.1 w.1 l) v) w

pub equal_size : (a b : Float) → T (fits binary64 a) → T (fits binary64 b) → T (eq a b) → abs a ≡ abs b
unfolding eq abs
equal_size nan b F G h = absurd h
equal_size (inf s) nan F G h = absurd h
equal_size (inf s) (inf t) F G h = refl
equal_size (inf s) (fin t n d) F G h = absurd h
equal_size (fin s m e) nan F G h = absurd h
equal_size (fin s m e) (inf t) F G h = absurd h
equal_size (fin s m e) (fin t n d) F G h =
    same_magnitude m n e d (abs_fits (fin s m e) F) (abs_fits (fin t n d) G)
    (eqb→eq (m * up e * down d) (n * up d * down e) (and_l (eqb (m * up e * down d) (n * up d * down e)) (beq s t || eqb (m * up e * down d) 0) h))

abbrev pub plus_zero : Float
plus_zero = fin false 0 (pos 0)

zero_fits : T (fits binary64 plus_zero)
unfolding fits
zero_fits = tt

no_units : (m u d e : ℕ) → 0 < d → m * u * d ≡ 0 → m * u * 1 ≡ 0 * 1 * e
no_units m u d e D h = omega (arith, at_zero (m * u) d 1 D (le_of_eq h), zero-mul e)

pub equal_value : (a b : Float) → T (fits binary64 a) → T (fits binary64 b) → T (eq a b) → (a ≡ b) ⊎ ((abs a ≡ plus_zero) × (abs b ≡ plus_zero))
unfolding eq abs
equal_value nan b F G h = absurd h
equal_value (inf s) nan F G h = absurd h
equal_value (inf true) (inf true) F G h = inl refl
equal_value (inf true) (inf false) F G h = absurd h
equal_value (inf false) (inf true) F G h = absurd h
equal_value (inf false) (inf false) F G h = inl refl
equal_value (inf s) (fin t n d) F G h = absurd h
equal_value (fin s m e) nan F G h = absurd h
equal_value (fin s m e) (inf t) F G h = absurd h
equal_value (fin s m e) (fin t n d) F G h = go s t (equal_size (fin s m e) (fin t n d) F G h) (and_r (eqb (m * up e * down d) (n * up d * down e)) (beq s t || eqb (m * up e * down d) 0) h)
  where
    same : (u : Bool) → fin false m e ≡ fin false n d → fin u m e ≡ fin u n d
    same u p = cc

    zeros : fin false m e ≡ fin false n d → T (eqb (m * up e * down d) 0) → (fin false m e ≡ plus_zero) × (fin false n d ≡ plus_zero)
    zeros p z =
        let q = same_magnitude m 0 e (pos 0) (abs_fits (fin s m e) F) zero_fits (no_units m (up e) (down d) (down e) (down_pos d) (eqb→eq (m * up e * down d) 0 z)) in
        (q, sym p ∙ q)

    go : (s t : Bool) → fin false m e ≡ fin false n d → T (beq s t || eqb (m * up e * down d) 0) → (fin s m e ≡ fin t n d) ⊎ ((fin false m e ≡ plus_zero) × (fin false n d ≡ plus_zero))
    go true true p z = inl (same true p)
    go true false p z = inr (zeros p z)
    go false true p z = inr (zeros p z)
    go false false p z = inl (same false p)

-- sizes, which are their own |x|: neither less means the same double
pub equal : (a b : Float) → T (fits binary64 a) → T (fits binary64 b) → Number a → Number b → abs a ≡ a → abs b ≡ b → T (not (lt a b)) → T (not (lt b a)) → a ≡ b
equal a b F G A B p q h k = sym p ∙ equal_size a b F G (neither_less a b A B h k) ∙ q

pub equal_abs : (a b : Float) → T (fits binary64 a) → T (fits binary64 b) → Number a → Number b → T (not (lt (abs a) (abs b))) → T (not (lt (abs b) (abs a))) → abs a ≡ abs b
equal_abs a b F G A B h k = equal (abs a) (abs b) (abs_fits a F) (abs_fits b G) (abs_number a A) (abs_number b B) (abs_again a) (abs_again b) h k
