-- The bit array: a subset in its first entries and 0 in the others, and the array of the first subset, filled entry by entry.
use mathlib.Core.Path.{◌≡◌, refl, sym, ap, ap₂, ◌∙◌}
use Prim.Native.Nat.{ℕ, zero, suc, ◌+◌, ◌-◌, ◌≤◌, ◌<◌}
use native.Mathlib.Nat.{zero-add}
use native.Mathlib.Numerals.{add-one}
use native.Mathlib.Omega.{arith}
use mathlib.Core.List.{List, [], ◌∷◌, ◌++◌}
use lib.ListN.{length, take, drop, set, replicate, length-append, length-replicate, take-append-drop}
use lib.Seq.{take-suc-set, take_at, drop_at, length-take-le, take_all}
use Rattle.std.proofs.lemmas.List.{drop-replicate}
use Rattle.subsets.specs.Subsets.{numbers_from, padded}

-- ---- what an array holds

pub padded_front : (k : ℕ) (s : List ℕ) → length s ≡ k → take k (padded s) ≡ s
padded_front k s e = take_at s (replicate (20 - length s) 0) k e

pub padded_rest : (k : ℕ) (s : List ℕ) → length s ≡ k → drop k (padded s) ≡ replicate (20 - k) 0
padded_rest k s e = drop_at s (replicate (20 - length s) 0) k e ∙ ap (λ (n : ℕ). replicate (20 - n) 0) e

pub padded_of : (k : ℕ) (l : List ℕ) → k ≤ length l → drop k l ≡ replicate (20 - k) 0 → l ≡ padded (take k l)
padded_of k l h e =
    sym (take-append-drop k l) ∙ ap (λ (m : List ℕ). take k l ++ m) (e ∙ ap (λ (n : ℕ). replicate (20 - n) 0) (sym (length-take-le k l h)))

pub padded_length : (s : List ℕ) → length s ≤ 20 → length (padded s) ≡ 20
padded_length s h = omega (arith, length-append s (replicate (20 - length s) 0), length-replicate {A = ℕ} (20 - length s) 0)

-- ---- the first subset

numbers_snoc : (lo k : ℕ) → numbers_from lo (suc k) ≡ numbers_from lo k ++ ((lo + k) ∷ [])
numbers_snoc lo zero = ap (λ (x : ℕ). x ∷ []) (omega arith)
numbers_snoc lo (suc k) = ap (λ (s : List ℕ). lo ∷ s) (numbers_snoc (suc lo) k ∙ ap (λ (x : ℕ). numbers_from (suc lo) k ++ (x ∷ [])) (omega arith))

-- one entry further
pub drop_next : (q : ℕ) (m : List ℕ) → drop (suc q) m ≡ drop 1 (drop q m)
drop_next zero m = refl
drop_next (suc q) [] = refl
drop_next (suc q) (x ∷ m) = drop_next q m

-- its first i entries are written
pub fill : (i : ℕ) (l : List ℕ) → i < length l → take i l ≡ numbers_from 0 i → take (i + 1) (set l i i) ≡ numbers_from 0 (i + 1)
fill i l h e =
    rw add-one
    (take-suc-set l i i h ∙ ap (λ (s : List ℕ). s ++ (i ∷ [])) e ∙ ap (λ (x : ℕ). numbers_from 0 i ++ (x ∷ [])) (sym (zero-add i)) ∙ sym (numbers_snoc 0 i))

pub filled : (k : ℕ) (l : List ℕ) → k ≤ 20 → length l ≡ k → take k l ≡ numbers_from 0 k → l ++ drop k (replicate 20 0) ≡ padded (numbers_from 0 k)
filled k l h n e =
    let is : l ≡ numbers_from 0 k = sym (take_all k l (omega arith)) ∙ e in
    ap₂ ◌++◌ is (drop-replicate k 20 0 ∙ ap (λ (m : ℕ). replicate (20 - m) 0) (sym (ap length (sym is) ∙ n)))
