-- The test of an order passes just the permutations of the bins (`once_permutes`).
use mathlib.Core.Path.{◌≡◌, refl, sym, ◌∙◌, subst}
use Prim.Native.Nat.{ℕ, zero, suc, ◌≤◌, ◌<◌, zero-le}
use native.Mathlib.Decide.{ℕ_discrete}
use native.Mathlib.Omega.{arith}
use mathlib.Core.Bool.{Bool, true, false, cond, false≢true}
use mathlib.Core.List.Permᴰ
use mathlib.Core.List.{List, [], ◌∷◌, ◌++◌}
use lib.Dec.{eqb, ltb}
use lib.ListN.{length}
use borrow.Author.Tests.{eq-eqb, ne_eqb, ltb-true, lt-ltb}
use Rattle.counting.specs.Sample.{list_of}
use Rattle.ranking.specs.Order.{Permuted}
use Rattle.ranking.proofs.Permuting.{permuted_length}
use Rattle.counting.proofs.Accepted.{both}
use Rattle.judging.specs.Permutation.{among, each_once, Permutation, OncePermutes}

-- ---- the test as facts

-- every entry is below m, and stands in no later place
abbrev Once : ℕ → List ℕ → Type 0
Once m [] = Unit {0}
Once m (a ∷ l) = (a < m) × (among a l ≡ false) × Once m l

not_again : (t b : Bool) → cond t false b ≡ true → (t ≡ false) × (b ≡ true)
not_again true b e = absurd (false≢true e)
not_again false b e = (refl, e)

facts : (m : ℕ) (l : List ℕ) → each_once m l ≡ true → Once m l
unfolding each_once
facts m [] e = tt
facts m (a ∷ l) e =
    let p = both (ltb a m) (cond (among a l) false (each_once m l)) e in
    let q = not_again (among a l) (each_once m l) p.1 in
    (ltb-true a m p.0, q.0, facts m l q.1)

passes : (m : ℕ) (l : List ℕ) → Once m l → each_once m l ≡ true
unfolding each_once
passes m [] o = refl
passes m (a ∷ l) o = rw (lt-ltb a m o.0, o.1) (passes m l o.2)

-- ---- an entry that stands in a list

among_head : (a b : ℕ) (l : List ℕ) → a ≡ b → among a (b ∷ l) ≡ true
unfolding among
among_head a b l e = rw (eq-eqb a b e) refl

among_tail : (a b : ℕ) (l : List ℕ) → (a ≡ b → ⊥) → among a (b ∷ l) ≡ among a l
unfolding among
among_tail a b l n = rw (ne_eqb a b n) refl

-- not among means neither the head nor among the rest
not_among : (a b : ℕ) (l : List ℕ) → among a (b ∷ l) ≡ false → (a ≡ b → ⊥) × (among a l ≡ false)
not_among a b l e =
    let n : a ≡ b → ⊥ = λ q. false≢true (sym e ∙ among_head a b l q) in
    (n, sym (among_tail a b l n) ∙ e)

nor : (a b : ℕ) (l : List ℕ) → (a ≡ b → ⊥) → among a l ≡ false → among a (b ∷ l) ≡ false
nor a b l n e = among_tail a b l n ∙ e

-- a permutation has the same entries
not_among_permuted : (v : ℕ) {s t : List ℕ} → Permuted s t → among v s ≡ false → among v t ≡ false
not_among_permuted v Permᴰ.nil e = e
not_among_permuted v (Permᴰ.cons {a} {b} {l₁} {l₂} q p) e =
    let w = not_among v a l₁ e in
    nor v b l₂ (λ z. w.0 (z ∙ sym q)) (not_among_permuted v p w.1)
not_among_permuted v (Permᴰ.swap {a} {b} {a'} {b'} {l} q r) e =
    let w = not_among v a (b ∷ l) e in
    let u = not_among v b l w.1 in
    nor v a' (b' ∷ l) (λ z. u.0 (z ∙ sym r)) (nor v b' l (λ z. w.0 (z ∙ sym q)) u.1)
not_among_permuted v (Permᴰ.trans p q) e = not_among_permuted v q (not_among_permuted v p e)

-- and passes the test where the list does
once_permuted : (m : ℕ) {s t : List ℕ} → Permuted s t → Once m s → Once m t
once_permuted m Permᴰ.nil o = o
once_permuted m (Permᴰ.cons {a} {b} {l₁} {l₂} q p) o =
    (subst (λ (z : ℕ). z < m) q o.0, subst (λ (z : ℕ). among z l₂ ≡ false) q (not_among_permuted a p o.1), once_permuted m p o.2)
once_permuted m (Permᴰ.swap {a} {b} {a'} {b'} {l} q r) o =
    let w = not_among a b l o.1 in (
      subst (λ (z : ℕ). z < m) r o.2.0,
      nor a' b' l (λ z. w.0 (q ∙ sym z ∙ sym r)) (subst (λ (z : ℕ). among z l ≡ false) r o.2.1),
      (subst (λ (z : ℕ). z < m) q o.0, subst (λ (z : ℕ). among z l ≡ false) q w.1, o.2.2),
    )
once_permuted m (Permᴰ.trans p q) o = once_permuted m q (once_permuted m p o)

-- ---- one bin fewer

-- the list without the first a
abbrev without : ℕ → List ℕ → List ℕ
without a [] = []
without a (b ∷ l) = cond (eqb a b) l (b ∷ without a l)

taken_out : (a : ℕ) (l : List ℕ) → among a l ≡ true → Permuted (a ∷ without a l) l
unfolding among
taken_out a [] e = absurd (false≢true e)
taken_out a (b ∷ l) e = go (ℕ_discrete a b) (taken_out a l)
  where
    go : Dec (a ≡ b) → (among a l ≡ true → Permuted (a ∷ without a l) l) → Permuted (a ∷ cond (eqb a b) l (b ∷ without a l)) (b ∷ l)
    go (yes q) more = rw (eq-eqb a b q) (Permᴰ.cons q (Permᴰ.refl l))
    go (no n) more =
        rw (ne_eqb a b n)
        (Permᴰ.trans (Permᴰ.swap refl refl) (Permᴰ.cons refl (more (sym (among_tail a b l n) ∙ e))))

narrower : (m : ℕ) (l : List ℕ) → among m l ≡ false → Once (suc m) l → Once m l
narrower m [] e o = tt
narrower m (a ∷ l) e o =
    let w = not_among m a l e in
    let n : a ≡ m → ⊥ = λ z. w.0 (sym z) in
    let below : a < m = omega (arith, o.0) in
    (below, o.1, narrower m l w.1 o.2)

-- the rest of a list in which bin m stands has one entry fewer, and its bins are below m
record Rest (m : ℕ) (l rest : List ℕ) : Type 0 where
  permuted : Permuted (m ∷ rest) l
  once : Once m rest
  size : length l ≡ suc (length rest)

rest_of : (m : ℕ) (l : List ℕ) → among m l ≡ true → Once (suc m) l → Rest m l (without m l)
rest_of m l e o =
    let p = taken_out m l e in
    let q = once_permuted (suc m) (Permᴰ.symm p) o in
    record { permuted = p; once = narrower m (without m l) q.1 q.2; size = sym (permuted_length p) }

-- no more entries than bins
fewer : (m : ℕ) (l : List ℕ) → Once m l → length l ≤ m
fewer zero [] o = zero-le
fewer zero (a ∷ l) o = absurd (omega (arith, o.0))
fewer (suc m) l o = go (among m l) refl (fewer m l) (fewer m (without m l))
  where
    go : (t : Bool) → among m l ≡ t → (Once m l → length l ≤ m) → (Once m (without m l) → length (without m l) ≤ m) → length l ≤ suc m
    go true e small rest = let r = rest_of m l e o in omega (arith, rest r.once, r.size)
    go false e small rest = omega (arith, small (narrower m l e o))

-- ---- the bins themselves

last_first : (s : List ℕ) (a : ℕ) → Permuted (s ++ (a ∷ [])) (a ∷ s)
last_first [] a = Permᴰ.refl (a ∷ [])
last_first (b ∷ s) a = Permᴰ.trans (Permᴰ.cons refl (last_first s a)) (Permᴰ.swap refl refl)

permutes : (m : ℕ) (l : List ℕ) → length l ≡ m → Once m l → Permutation m l
unfolding list_of
permutes zero [] e o = Permᴰ.nil
permutes zero (a ∷ l) e o = absurd (omega arith)
permutes (suc m) l e o = go (among m l) refl (permutes m (without m l))
  where
    go : (t : Bool) → among m l ≡ t → (length (without m l) ≡ m → Once m (without m l) → Permutation m (without m l)) → Permuted (list_of m (λ v. v) ++ (m ∷ [])) l
    go true q more =
        let r = rest_of m l q o in
        let size : length (without m l) ≡ m = omega (arith, r.size) in
        Permᴰ.trans (last_first (list_of m (λ v. v)) m) (Permᴰ.trans (Permᴰ.cons refl (more size r.once)) r.permuted)
    go false q more = absurd (omega (arith, fewer m l (narrower m l q o)))

-- a bin that is too great stands nowhere
absent : (m a : ℕ) (l : List ℕ) → m ≤ a → Once m l → among a l ≡ false
unfolding among
absent m a [] h o = refl
absent m a (b ∷ l) h o = nor a b l (λ z. omega (arith, o.0)) (absent m a l h o.2)

wider : (m : ℕ) (l : List ℕ) → Once m l → Once (suc m) l
wider m [] o = tt
wider m (a ∷ l) o = let below : a < suc m = omega (arith, o.0) in (below, o.1, wider m l o.2)

bins_once : (m : ℕ) → Once m (list_of m (λ v. v))
unfolding list_of
bins_once zero = tt
bins_once (suc m) =
    let o = bins_once m in
    let h : m < suc m = omega arith in
    let s : m ≤ m = omega arith in
    once_permuted (suc m) (Permᴰ.symm (last_first (list_of m (λ v. v)) m)) (h, absent m m (list_of m (λ v. v)) s o, wider m (list_of m (λ v. v)) o)

pub once_permutes : OncePermutes
once_permutes m l e = (λ t. permutes m l e (facts m l t), λ p. passes m l (once_permuted m p (bins_once m)))
