-- The halving rule of a table: one test that antt computes over all entries, and the law that turns it into the rule and into the powers of one half.
use mathlib.Core.Path.{◌≡◌, refl, ap, ◌∙◌}
use mathlib.Core.Bool.{Bool, true, false, ◌&&◌, beq}
use mathlib.Core.List.{List, [], ◌∷◌}
use Prim.Native.Nat.{ℕ, zero, suc, ◌<◌}
use native.Mathlib.Nat.{le_of_suc-le-suc, not-suc-le-zero, le_of_suc-le}
use lib.Dec.{T, eqb, eqb→eq}
use lib.IntN.{ℤ, pos, negsuc}
use lib.ListN.{length, get_or}
use lib.Ieee.{Float, nan, inf, fin, binary64, mul}
use lib.Ieee.Fits.{and_l, and_r}
use Rattle.scoring.specs.Halves.{one, half, half_power, Halving, half_powers, TableHalves}

-- ---- a test of equality
abbrev same_power : ℤ → ℤ → Bool
same_power (pos a) (pos b) = eqb a b
same_power (pos a) (negsuc b) = false
same_power (negsuc a) (pos b) = false
same_power (negsuc a) (negsuc b) = eqb a b

abbrev same : Float → Float → Bool
same nan y = false
same (inf s) y = false
same (fin s m e) nan = false
same (fin s m e) (inf t) = false
same (fin s m e) (fin t n d) = beq s t && eqb m n && same_power e d

sign_is : (s t : Bool) → T (beq s t) → s ≡ t
sign_is true true h = refl
sign_is true false h = absurd h
sign_is false true h = absurd h
sign_is false false h = refl

power_is : (e d : ℤ) → T (same_power e d) → e ≡ d
power_is (pos a) (pos b) h = ap pos (eqb→eq a b h)
power_is (pos a) (negsuc b) h = absurd h
power_is (negsuc a) (pos b) h = absurd h
power_is (negsuc a) (negsuc b) h = ap negsuc (eqb→eq a b h)

same_is : (x y : Float) → T (same x y) → x ≡ y
same_is nan y h = absurd h
same_is (inf s) y h = absurd h
same_is (fin s m e) nan h = absurd h
same_is (fin s m e) (inf t) h = absurd h
same_is (fin s m e) (fin t n d) h =
    let p = sign_is s t (and_l (beq s t) (eqb m n) (and_l (beq s t && eqb m n) (same_power e d) h)) in
    let q = eqb→eq m n (and_r (beq s t) (eqb m n) (and_l (beq s t && eqb m n) (same_power e d) h)) in
    let r = power_is e d (and_r (beq s t && eqb m n) (same_power e d) h) in
    cc

-- ---- the test: each entry is half of the one before, x
abbrev halves_after : Float → List Float → Bool
halves_after x [] = true
halves_after x (y ∷ ys) = same y (mul binary64 x half) && halves_after y ys

-- entry 0 is 1, entry k + 1 is half of entry k
abbrev pub halves : List Float → Bool
halves [] = false
halves (x ∷ xs) = same x one && halves_after x xs

-- ---- the law
next_is : (x : Float) (xs : List Float) → T (halves_after x xs) → (k : ℕ) → suc k < length (x ∷ xs) → get_or (x ∷ xs) (suc k) nan ≡ mul binary64 (get_or (x ∷ xs) k nan) half
next_is x [] t k h = absurd (not-suc-le-zero (le_of_suc-le-suc h))
next_is x (y ∷ ys) t zero h = same_is y (mul binary64 x half) (and_l (same y (mul binary64 x half)) (halves_after y ys) t)
next_is x (y ∷ ys) t (suc k) h = next_is y ys (and_r (same y (mul binary64 x half)) (halves_after y ys) t) k (le_of_suc-le-suc h)

pub halving : (table : List Float) → T (halves table) → Halving table
halving [] t = absurd t
halving (x ∷ xs) t = record {
  first = same_is x one (and_l (same x one) (halves_after x xs) t);
  next = next_is x xs (and_r (same x one) (halves_after x xs) t);
}

-- a table with that rule holds the powers of one half
pub entry : {table : List Float} → Halving table → (k : ℕ) → k < length table → get_or table k nan ≡ half_power k
unfolding half_power
entry rule zero h = rule.first
entry rule (suc k) h = rule.next k h ∙ ap (λ (x : Float). mul binary64 x half) (entry rule k (le_of_suc-le h))

-- ---- the table of `src/halves.rt`
pub table_halves : TableHalves
unfolding half_powers mul
table_halves = halving half_powers tt
