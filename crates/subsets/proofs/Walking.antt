-- Where a subset stands in the list `subsets B k`, what follows it there, and that its place is its rank.
use mathlib.Core.Path.{◌≡◌, refl, sym, ap, ap₂, subst, ◌∙◌}
use mathlib.Core.Logic.{◌⊎◌, inl, inr}
use Prim.Native.Nat.{ℕ, suc, ◌+◌}
use native.Mathlib.Nat.{zero-add, add-zero, add_assoc}
use native.Mathlib.Omega.{arith}
use mathlib.Core.Bool.{Bool, true, false, cond}
use mathlib.Core.List.Memᴰ
use mathlib.Core.List.{List, [], ◌∷◌, ◌++◌, append_assoc, Memᴰ}
use lib.Dec.{T}
use lib.ListN.{length}
use Rattle.subsets.specs.Subsets.{Subset, lex_lt, subsets, Sorted, Next, Last}
use Rattle.subsets.specs.Rank.{count_before, rank_of}
use Rattle.subsets.proofs.Lex.{lex_irrefl, lex_asym}
use Rattle.subsets.proofs.Listing.{listed}

sorted_right : (xs ys : List (List ℕ)) → Sorted (xs ++ ys) → Sorted ys
sorted_right [] ys h = h
sorted_right (x ∷ xs) ys h = sorted_right xs ys h.1

sorted_across : (xs ys : List (List ℕ)) → Sorted (xs ++ ys) → (x y : List ℕ) → Memᴰ x xs → Memᴰ y ys → T (lex_lt x y)
sorted_across [] ys h x y p q = absurd (Memᴰ.not-nil p)
sorted_across (z ∷ xs) ys h x y (Memᴰ.head e) q = subst (λ (w : List ℕ). T (lex_lt w y)) (sym e) (h.0 y (Memᴰ.append_right xs q))
sorted_across (z ∷ xs) ys h x y (Memᴰ.tail p) q = sorted_across xs ys h.1 x y p q

-- a list with the place of s in it
pub record At (s : List ℕ) (l : List (List ℕ)) : Type 0 where
  pub pre : List (List ℕ)
  pub rest : List (List ℕ)
  pub here : l ≡ pre ++ (s ∷ rest)

at : (s : List ℕ) (l : List (List ℕ)) → Memᴰ s l → At s l
at s [] m = absurd (Memᴰ.not-nil m)
at s (x ∷ l) (Memᴰ.head e) = record { pre = []; rest = l; here = ap (λ (w : List ℕ). w ∷ l) (sym e) }
at s (x ∷ l) (Memᴰ.tail m) = let w = at s l m in record { pre = x ∷ w.pre; rest = w.rest; here = ap (λ (t : List (List ℕ)). x ∷ t) w.here }

pub stands : (B k : ℕ) (s : List ℕ) → Subset B k s → At s (subsets B k)
stands B k s h = at s (subsets B k) ((listed B k).complete s h)

-- ---- counting those before s

pub count_append : (s : List ℕ) (xs ys : List (List ℕ)) → count_before s (xs ++ ys) ≡ count_before s xs + count_before s ys
count_append s [] ys = sym (zero-add (count_before s ys))
count_append s (x ∷ xs) ys = ap (λ (n : ℕ). cond (lex_lt x s) 1 0 + n) (count_append s xs ys) ∙ sym (add_assoc (cond (lex_lt x s) 1 0) (count_before s xs) (count_before s ys))

one_of : (b : Bool) → T b → cond b 1 0 ≡ suc 0
one_of true t = refl
one_of false t = absurd t

none_of : (b : Bool) → (T b → ⊥) → cond b (suc 0) 0 ≡ 0
none_of true f = absurd (f tt)
none_of false f = refl

count_all : (s : List ℕ) (xs : List (List ℕ)) → ((x : List ℕ) → Memᴰ x xs → T (lex_lt x s)) → count_before s xs ≡ length xs
count_all s [] h = refl
count_all s (x ∷ xs) h = omega (arith, one_of (lex_lt x s) (h x (Memᴰ.head refl)), count_all s xs (λ y p. h y (Memᴰ.tail p)))

pub count_none : (s : List ℕ) (xs : List (List ℕ)) → ((x : List ℕ) → Memᴰ x xs → T (lex_lt x s) → ⊥) → count_before s xs ≡ 0
count_none s [] h = refl
count_none s (x ∷ xs) h = omega (arith, none_of (lex_lt x s) (h x (Memᴰ.head refl)), count_none s xs (λ y p. h y (Memᴰ.tail p)))

count_here : (s : List ℕ) (pre rest : List (List ℕ)) → Sorted (pre ++ (s ∷ rest)) → count_before s (pre ++ (s ∷ rest)) ≡ length pre
count_here s pre rest h =
    count_append s pre (s ∷ rest)
    ∙ ap₂ ◌+◌ (count_all s pre (λ x p. sorted_across pre (s ∷ rest) h x s p (Memᴰ.head refl))) (count_none s (s ∷ rest) later)
    ∙ add-zero (length pre)
  where
    later : (x : List ℕ) → Memᴰ x (s ∷ rest) → T (lex_lt x s) → ⊥
    later x (Memᴰ.head e) l = lex_irrefl s (subst (λ (w : List ℕ). T (lex_lt w s)) e l)
    later x (Memᴰ.tail p) l = lex_asym s x ((sorted_right pre (s ∷ rest) h).0 x p) l

-- ---- at the place of s

module _ (B k : ℕ) (pre : List (List ℕ)) (s : List ℕ) (rest : List (List ℕ)) (here : subsets B k ≡ pre ++ (s ∷ rest)) where
  order : Sorted (pre ++ (s ∷ rest))
  order = subst Sorted here (listed B k).sorted

  -- its rank is the number before it
  pub rank_here : length s ≡ k → rank_of B s ≡ length pre
  rank_here e = ap (λ (n : ℕ). count_before s (subsets B n)) e ∙ ap (count_before s) here ∙ count_here s pre rest order

  -- what stands after s follows it
  pub after_here : (t : List ℕ) → Subset B k t → T (lex_lt s t) → Memᴰ t rest
  after_here t X l = go (Memᴰ.append_cases pre (subst (Memᴰ t) here ((listed B k).complete t X)))
    where
      go : Memᴰ t pre ⊎ Memᴰ t (s ∷ rest) → Memᴰ t rest
      go (inl p) = absurd (lex_asym s t l (sorted_across pre (s ∷ rest) order t s p (Memᴰ.head refl)))
      go (inr (Memᴰ.head e)) = absurd (lex_irrefl s (subst (λ (w : List ℕ). T (lex_lt s w)) e l))
      go (inr (Memᴰ.tail p)) = p

  -- so its place is later
  pub past_here : (t : List ℕ) → Subset B k t → T (lex_lt s t) → (mid : List (List ℕ)) × (post : List (List ℕ)) × (subsets B k ≡ (pre ++ (s ∷ mid)) ++ (t ∷ post))
  past_here t X l =
      let w = at t rest (after_here t X l) in
      (w.pre, w.rest, here ∙ ap (λ (r : List (List ℕ)). pre ++ (s ∷ r)) w.here ∙ sym (append_assoc pre (s ∷ w.pre) (t ∷ w.rest)))

  listed_here : (t : List ℕ) → Memᴰ t rest → Subset B k t
  listed_here t p = (listed B k).sound t (subst (Memᴰ t) (sym here) (Memᴰ.append_right pre (Memᴰ.tail p)))

  -- the next subset is the next of the list
  pub next_here : (t : List ℕ) → Next B k s t → (post : List (List ℕ)) × (rest ≡ t ∷ post)
  next_here t n = go rest (after_here t n.subset n.after) (λ u p. n.least u (listed_here u p)) (sorted_right pre (s ∷ rest) order)
    where
      go : (r : List (List ℕ)) → Memᴰ t r → ((u : List ℕ) → Memᴰ u r → T (lex_lt s u) → (u ≡ t) ⊎ T (lex_lt t u)) → Sorted (s ∷ r) → (post : List (List ℕ)) × (r ≡ t ∷ post)
      go [] p f q = absurd (Memᴰ.not-nil p)
      go (h ∷ post) p f q = step (f h (Memᴰ.head refl) (q.0 h (Memᴰ.head refl))) p
        where
          step : (h ≡ t) ⊎ T (lex_lt t h) → Memᴰ t (h ∷ post) → (tail : List (List ℕ)) × (h ∷ post ≡ t ∷ tail)
          step (inl e) m = (post, ap (λ (w : List ℕ). w ∷ post) e)
          step (inr l) (Memᴰ.head e) = absurd (lex_irrefl t (subst (λ (w : List ℕ). T (lex_lt t w)) (sym e) l))
          step (inr l) (Memᴰ.tail m) = absurd (lex_asym t h l (q.1.0 t m))

  -- the last subset is the last of the list
  pub last_here : Last B k s → rest ≡ []
  last_here z = go rest listed_here (sorted_right pre (s ∷ rest) order)
    where
      go : (r : List (List ℕ)) → ((t : List ℕ) → Memᴰ t r → Subset B k t) → Sorted (s ∷ r) → r ≡ []
      go [] f q = refl
      go (h ∷ r) f q = absurd (z.none h (f h (Memᴰ.head refl)) (q.0 h (Memᴰ.head refl)))
