-- The test of an order entry by entry, from the last one back, and the marks that stand for the entries passed.
use mathlib.Core.Path.{◌≡◌, refl, sym, ap, ◌∙◌}
use Prim.Native.Nat.{ℕ, ◌≤◌, ◌<◌}
use native.Mathlib.Decide.{ℕ_discrete}
use native.Mathlib.Omega.{arith}
use mathlib.Core.Bool.{Bool, true, false, cond}
use mathlib.Core.List.{List, [], ◌∷◌, ◌++◌, append-nil, append_assoc}
use lib.Dec.{ltb}
use lib.ListN.{length, get_or, set, replicate, length-set, get_or-replicate}
use lib.Seq.{get_or-set_same, get_or-set_other}
use borrow.Author.Tests.{eq-eqb, ne_eqb, lt-ltb, le-ltb}
use Rattle.judging.specs.Permutation.{among, each_once}

-- an entry that is no bin, one that stands again, and one that does neither

no_bin : (m a : ℕ) (s : List ℕ) → m ≤ a → each_once m (a ∷ s) ≡ false
unfolding each_once
no_bin m a s h = rw (le-ltb a m h) refl

stands_again : (m a : ℕ) (s : List ℕ) → a < m → among a s ≡ true → each_once m (a ∷ s) ≡ false
unfolding each_once
stands_again m a s h e = rw (lt-ltb a m h, e) refl

one_more : (m a : ℕ) (s : List ℕ) → a < m → among a s ≡ false → each_once m s ≡ true → each_once m (a ∷ s) ≡ true
unfolding each_once
one_more m a s h e t = rw (lt-ltb a m h, e) t

-- what fails from some place on fails whole
fails_whole : (m : ℕ) (l s : List ℕ) → each_once m s ≡ false → each_once m (l ++ s) ≡ false
unfolding each_once
fails_whole m [] s e = e
fails_whole m (a ∷ l) s e = after (ltb a m) (among a (l ++ s)) (fails_whole m l s e)
  where
    after : (x y : Bool) → each_once m (l ++ s) ≡ false → cond x (cond y false (each_once m (l ++ s))) false ≡ false
    after true true h = refl
    after true false h = h
    after false y h = refl

-- ---- the marks

-- 1 at each bin that stands in the list, and 0 at the others
abbrev pub Marked : List ℕ → List ℕ → Type 0
Marked seen s = (v : ℕ) → v < length seen → get_or seen v 0 ≡ cond (among v s) 1 0

marked_none : (seen : List ℕ) → seen ≡ replicate (length seen) 0 → Marked seen []
unfolding among
marked_none seen e v h = ap (λ (s : List ℕ). get_or s v 0) e ∙ get_or-replicate (length seen) v 0 0 h

marked_more : (seen s : List ℕ) (a : ℕ) → Marked seen s → a < length seen → (v : ℕ) → v < length seen → get_or (set seen a 1) v 0 ≡ cond (among v (a ∷ s)) 1 0
unfolding among
marked_more seen s a marks h v l = go (ℕ_discrete v a)
  where
    go : Dec (v ≡ a) → get_or (set seen a 1) v 0 ≡ cond (among v (a ∷ s)) 1 0
    go (yes e) = rw (eq-eqb v a e) (ap (λ (j : ℕ). get_or (set seen a 1) j 0) e ∙ get_or-set_same seen a 1 0 h)
    go (no n) = rw (ne_eqb v a n) (get_or-set_other seen a v 1 0 n ∙ marks v l)

-- what a mark says
is_among : (a : ℕ) (s : List ℕ) (x : ℕ) → x ≡ cond (among a s) 1 0 → (x ≡ 0 → ⊥) → among a s ≡ true
is_among a s x e n = go (among a s) e
  where
    go : (t : Bool) → x ≡ cond t 1 0 → t ≡ true
    go true p = refl
    go false p = absurd (n p)

is_not_among : (a : ℕ) (s : List ℕ) (x : ℕ) → x ≡ cond (among a s) 1 0 → x ≡ 0 → among a s ≡ false
is_not_among a s x e z = go (among a s) e
  where
    go : (t : Bool) → x ≡ cond t 1 0 → t ≡ false
    go true p = absurd (omega arith)
    go false p = refl

-- ---- the walk: of the order those in `left` are left; the others pass the test, and the marks are theirs

pub record Passed (order : List ℕ) (m : ℕ) (left seen : List ℕ) : Type 0 where
  pub passed : List ℕ
  pub parts : left ++ passed ≡ order
  pub once : each_once m passed ≡ true
  pub marks : Marked seen passed
  pub size : length seen ≡ m

pub none_passed : (order seen : List ℕ) → seen ≡ replicate (length seen) 0 → Passed order (length seen) order seen
unfolding each_once
none_passed order seen e = record { passed = []; parts = append-nil order; once = refl; marks = marked_none seen e; size = refl }

module _ (order : List ℕ) (m : ℕ) (left seen rest : List ℕ) (a : ℕ) (p : Passed order m left seen) (next : left ≡ rest ++ (a ∷ [])) where
  parts : rest ++ (a ∷ p.passed) ≡ order
  parts = sym (append_assoc rest (a ∷ []) p.passed) ∙ ap (λ (s : List ℕ). s ++ p.passed) (sym next) ∙ p.parts

  failed : each_once m (a ∷ p.passed) ≡ false → false ≡ each_once m order
  failed e = sym (fails_whole m rest (a ∷ p.passed) e) ∙ ap (each_once m) parts

  -- the entry is no bin, or has its mark
  pub outside : length seen ≤ a → false ≡ each_once m order
  outside h = failed (no_bin m a p.passed (omega (arith, p.size)))

  pub again : a < length seen → (get_or seen a 0 ≡ 0 → ⊥) → false ≡ each_once m order
  again h n = failed (stands_again m a p.passed (omega (arith, p.size)) (is_among a p.passed _ (p.marks a h) n))

  -- it is a bin without one
  pub turn : a < length seen → get_or seen a 0 ≡ 0 → Passed order m rest (set seen a 1)
  turn h z =
      record {
        passed = a ∷ p.passed;
        parts = parts;
        once = one_more m a p.passed (omega (arith, p.size)) (is_not_among a p.passed _ (p.marks a h) z) p.once;
        marks = λ v l. marked_more seen p.passed a p.marks h v (simp length-set at l);
        size = length-set seen a 1 ∙ p.size;
      }
