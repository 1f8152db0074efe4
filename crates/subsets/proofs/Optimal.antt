-- The fold that keeps the first best over `subsets B k` gives the k-subset that beats every other, and no other subset does.
use mathlib.Core.Path.{◌≡◌, refl, sym, subst}
use mathlib.Core.Logic.{◌⊎◌, inl, inr}
use Prim.Native.Nat.{ℕ}
use mathlib.Core.Bool.{Bool, true, false, not, cond}
use mathlib.Core.List.Memᴰ
use mathlib.Core.List.{List, [], ◌∷◌, map, Memᴰ}
use lib.Dec.{T, T_not}
use Rattle.subsets.specs.Subsets.{Subset, lex_lt, subsets, Sorted, Lists}
use Rattle.subsets.specs.Best.{best_of, first_best, Order, Beats, Optimal, best_subset}
use Rattle.subsets.proofs.Lex.{T_dec, lex_asym}
use Rattle.subsets.proofs.Listing.{listed}

-- S the scores, `less` their order where `ok`, `score` each subset's
module _ {S : Type 0} (less : S → S → Bool) (ok : S → Type 0) (order : Order less ok) (score : List ℕ → S) where
  abbrev pub below : List ℕ → List ℕ → Bool
  below s t = less (score s) (score t)

  -- r is s, or beats it
  abbrev pub Opt : List ℕ → List ℕ → Type 0
  Opt r s = (s ≡ r) ⊎ Beats less score r s

  not_T : (b : Bool) → (T b → ⊥) → T (not b)
  not_T true f = f tt
  not_T false f = tt

  -- what b is or beats, t beats where b is less than t
  pub over : (b t s : List ℕ) → ok (score b) → ok (score t) → ok (score s) → T (below b t) → Opt b s → Opt t s
  over b t s B X Y h (inl e) = inr (inl (subst (λ (z : List ℕ). T (below z t)) (sym e) h))
  over b t s B X Y h (inr (inl l)) =
      inr (inl (order.co (score b) (score s) (score t) B Y X h (not_T (below b s) (λ x. order.asym (score b) (score s) B Y x l))))
  over b t s B X Y h (inr (inr w)) = inr (inl (order.co (score b) (score s) (score t) B Y X h w.0))

  -- b beats t, which stands later, where b is not less
  pub stays : (b t : List ℕ) → T (not (below b t)) → T (lex_lt b t) → Opt b t
  stays b t n l = elim (T_dec (below t b)) [
    | inl h ↦ inr (inl h)
    | inr h ↦ inr (inr (n, h, l))
  ]

  best_beats : (b : List ℕ) (ss : List (List ℕ)) → Sorted (b ∷ ss) → ((x : List ℕ) → Memᴰ x (b ∷ ss) → ok (score x))
      → (s : List ℕ) → ok (score s) → Opt b s ⊎ Memᴰ s ss → Opt (best_of below b ss) s
  best_beats b [] q o s X (inl p) = p
  best_beats b [] q o s X (inr p) = absurd (Memᴰ.not-nil p)
  best_beats b (t ∷ ss) q o s X p =
      go (below b t) (λ h. h) (λ h. h)
      (best_beats t ss q.1 (λ x m. o x (Memᴰ.tail m)) s X)
      (best_beats b ss (λ y m. q.0 y (Memᴰ.tail m), q.1.1) (λ x m. o x (skip x m)) s X)
    where
      skip : (x : List ℕ) → Memᴰ x (b ∷ ss) → Memᴰ x (b ∷ t ∷ ss)
      skip x (Memᴰ.head e) = Memᴰ.head e
      skip x (Memᴰ.tail m) = Memᴰ.tail (Memᴰ.tail m)

      moved : T (below b t) → Opt b s ⊎ Memᴰ s (t ∷ ss) → Opt t s ⊎ Memᴰ s ss
      moved h (inl w) = inl (over b t s (o b (Memᴰ.head refl)) (o t (Memᴰ.tail (Memᴰ.head refl))) X h w)
      moved h (inr (Memᴰ.head e)) = inl (inl e)
      moved h (inr (Memᴰ.tail m)) = inr m

      kept : T (not (below b t)) → Opt b s ⊎ Memᴰ s (t ∷ ss) → Opt b s ⊎ Memᴰ s ss
      kept h (inl w) = inl w
      kept h (inr (Memᴰ.head e)) = inl (subst (λ (z : List ℕ). Opt b z) (sym e) (stays b t h (q.0 t (Memᴰ.head refl))))
      kept h (inr (Memᴰ.tail m)) = inr m

      go : (v : Bool) → (T v → T (below b t)) → (T (not v) → T (not (below b t)))
          → (Opt t s ⊎ Memᴰ s ss → Opt (best_of below t ss) s) → (Opt b s ⊎ Memᴰ s ss → Opt (best_of below b ss) s)
          → Opt (best_of below (cond v t b) ss) s
      go true y n f g = f (moved (y tt) p)
      go false y n f g = g (kept (n tt) p)

  -- the result is one of those listed
  best_listed : (b : List ℕ) (ss : List (List ℕ)) → Memᴰ (best_of below b ss) (b ∷ ss)
  best_listed b [] = Memᴰ.head refl
  best_listed b (t ∷ ss) = go (below b t) (best_listed t ss) (best_listed b ss)
    where
      go : (v : Bool) → Memᴰ (best_of below t ss) (t ∷ ss) → Memᴰ (best_of below b ss) (b ∷ ss) → Memᴰ (best_of below (cond v t b) ss) (b ∷ t ∷ ss)
      go true f g = Memᴰ.tail f
      go false f (Memᴰ.head e) = Memᴰ.head e
      go false f (Memᴰ.tail m) = Memᴰ.tail (Memᴰ.tail m)

  module _ (B k : ℕ) (fine : (s : List ℕ) → Subset B k s → ok (score s)) where
    -- the list's first best is optimal, where there is a subset
    pub best_optimal : (s : List ℕ) → Subset B k s → Optimal less score B k (best_subset less score B k)
    best_optimal s h = go (subsets B k) ((listed B k).complete s h) (listed B k)
      where
        go : (l : List (List ℕ)) → Memᴰ s l → Lists B k l → Optimal less score B k (first_best below [] l)
        go [] m f = absurd (Memᴰ.not-nil m)
        go (b ∷ ss) m f = record {
          subset = f.sound (best_of below b ss) (best_listed b ss);
          beats = λ x X. best_beats b ss f.sorted (λ y p. fine y (f.sound y p)) x (fine x X) (at x (Memᴰ.cases_cons (f.complete x X)));
        }
          where
            at : (x : List ℕ) → (x ≡ b) ⊎ Memᴰ x ss → Opt b x ⊎ Memᴰ x ss
            at x (inl e) = inl (inl e)
            at x (inr p) = inr p

    -- no two subsets are optimal
    pub optimal_unique : (r r' : List ℕ) → Optimal less score B k r → Optimal less score B k r' → r ≡ r'
    optimal_unique r r' p q = go (p.beats r' q.subset) (q.beats r p.subset)
      where
        go : Opt r r' → Opt r' r → r ≡ r'
        go (inl e) y = sym e
        go (inr x) (inl e) = e
        go (inr (inl x)) (inr (inl y)) = absurd (order.asym (score r') (score r) (fine r' q.subset) (fine r p.subset) x y)
        go (inr (inl x)) (inr (inr y)) = absurd (T_not (below r' r) y.0 x)
        go (inr (inr x)) (inr (inl y)) = absurd (T_not (below r r') x.0 y)
        go (inr (inr x)) (inr (inr y)) = absurd (lex_asym r r' x.2 y.2)

-- ---- values that carry their scores

-- a fold over values made of subsets is the fold over the subsets
best_map : {A C : Type 0} (less : C → C → Bool) (f : A → C) (b : A) (ss : List A) → best_of less (f b) (map f ss) ≡ f (best_of (λ x y. less (f x) (f y)) b ss)
best_map less f b [] = refl
best_map less f b (t ∷ ss) = go (less (f b) (f t)) (best_map less f t ss) (best_map less f b ss)
  where
    go : (v : Bool) → best_of less (f t) (map f ss) ≡ f (best_of (λ x y. less (f x) (f y)) t ss) → best_of less (f b) (map f ss) ≡ f (best_of (λ x y. less (f x) (f y)) b ss)
        → best_of less (cond v (f t) (f b)) (map f ss) ≡ f (best_of (λ x y. less (f x) (f y)) (cond v t b) ss)
    go true p q = p
    go false p q = q

-- the same of a list that has a member x
pub first_map : {A C : Type 0} (less : C → C → Bool) (f : A → C) (c : C) (a x : A) (l : List A) → Memᴰ x l
    → first_best less c (map f l) ≡ f (first_best (λ y z. less (f y) (f z)) a l)
first_map less f c a x [] m = absurd (Memᴰ.not-nil m)
first_map less f c a x (b ∷ ss) m = best_map less f b ss
