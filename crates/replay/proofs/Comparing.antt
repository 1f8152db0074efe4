-- The comparison of findings: where entries differ, and that a finding whose score is a number is the same as itself.
use mathlib.Core.Path.{◌≡◌, refl, sym, ap, ◌∙◌}
use mathlib.Core.Bool.{Bool, true, false, ◌&&◌, beq}
use mathlib.Core.List.{List, [], ◌∷◌, ◌++◌}
use Prim.Native.Nat.{ℕ, zero, suc, ◌*◌, ◌≤◌, min}
use native.Mathlib.Omega.{arith}
use lib.Dec.{eqb}
use lib.Ieee.{Float, nan, inf, fin, up, down, eq, is_nan}
use lib.ListN.{length, get_or, take, length-take}
use Rattle.std.specs.Cmp.Lexicographic.{pointwise}
use Rattle.std.proofs.Math.Bool.{and-true, and_assoc}
use Rattle.std.proofs.Math.Seq.{take-suc}
use borrow.Author.Tests.{eq-eqb}
use Rattle.scoring.specs.Score.{Number}
use Rattle.searching.specs.declared.finding.Finding.{Finding}
use Rattle.replay.specs.Agreement.{same_to, alike, same_finding}

-- one entry more at the end
pointwise_last : (xs ys : List ℕ) (x y : ℕ) → length xs ≡ length ys → pointwise eqb (xs ++ (x ∷ [])) (ys ++ (y ∷ [])) ≡ (pointwise eqb xs ys && eqb x y)
pointwise_last [] [] x y e = and-true (eqb x y)
pointwise_last [] (b ∷ ys) x y e = absurd (omega arith)
pointwise_last (a ∷ xs) [] x y e = absurd (omega arith)
pointwise_last (a ∷ xs) (b ∷ ys) x y e =
    ap (λ (t : Bool). eqb a b && t) (pointwise_last xs ys x y (omega arith)) ∙ sym (and_assoc (eqb a b) (pointwise eqb xs ys) (eqb x y))

-- the first m entries, as slices
pub slices_same : (a b : List ℕ) (m : ℕ) → m ≤ length a → m ≤ length b → pointwise eqb (take m a) (take m b) ≡ same_to a b m
unfolding same_to
slices_same a b zero h g = refl
slices_same a b (suc m) h g =
    let size : length (take m a) ≡ length (take m b) = simp (length-take) (omega arith) in
    rw (take-suc a m 0, take-suc b m 0) (pointwise_last (take m a) (take m b) (get_or a m 0) (get_or b m 0) size
    ∙ ap (λ (t : Bool). t && eqb (get_or a m 0) (get_or b m 0)) (slices_same a b m (omega arith) (omega arith)))

same_self : (a : List ℕ) (m : ℕ) → same_to a a m ≡ true
unfolding same_to
same_self a zero = refl
same_self a (suc m) = rw (same_self a m, eq-eqb (get_or a m 0) (get_or a m 0) refl)

-- a number equals itself
eq_self : (x : Float) → Number x → eq x x ≡ true
unfolding eq is_nan
eq_self nan n = absurd n
eq_self (inf true) n = refl
eq_self (inf false) n = refl
eq_self (fin true m e) n = rw (eq-eqb (m * up e * down e) (m * up e * down e) refl)
eq_self (fin false m e) n = rw (eq-eqb (m * up e * down e) (m * up e * down e) refl)

-- bit orders are alike where they are the same
pub alike_is : (a b : Bool) → alike a b ≡ beq a b
alike_is true true = refl
alike_is true false = refl
alike_is false true = refl
alike_is false false = refl

alike_self : (b : Bool) → alike b b ≡ true
alike_self true = refl
alike_self false = refl

pub finding_self : (f : Finding) → Number f.z → same_finding f f ≡ true
unfolding same_finding
finding_self f n =
    rw (eq-eqb f.block_size f.block_size refl, eq-eqb f.width f.width refl, eq-eqb f.division f.division refl, same_self f.bits (min f.width 20), alike_self f.low_first)
    (eq_self f.z n)
