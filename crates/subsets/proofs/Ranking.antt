-- Ranks: the k-subsets before s, s itself and the ways above its bits are all k-subsets, and from each subset to the next the rank grows by 1.
use mathlib.Core.Path.{◌≡◌, refl, sym, ap, ap₂, subst, ◌∙◌}
use mathlib.Core.Logic.{◌⊎◌, inl, inr}
use Prim.Native.Nat.{ℕ, zero, suc, ◌+◌, ◌-◌, ◌≤◌, ◌<◌}
use native.Mathlib.Nat.{zero-add, eq-or-lt_of_le}
use native.Mathlib.Omega.{arith}
use mathlib.Core.Bool.{Bool, true, cond}
use mathlib.Core.List.{List, [], ◌∷◌, ◌++◌, map, append_assoc, Memᴰ}
use lib.Dec.{T}
use lib.ListN.{length, length-append, length-map}
use borrow.Author.Tests.{le-ltb, lt-ltb, eq-eqb}
use Rattle.subsets.specs.Subsets.{Rising, Subset, lex_lt, subsets_from, subsets, numbers_from, Next, Last}
use Rattle.subsets.specs.Choose.{choose}
use Rattle.subsets.specs.Rank.{count_before, rank_of, ways_above, Ranks, SubsetsRanked}
use Rattle.subsets.proofs.Lex.{lex_irrefl, lex_asym, lex_cases, lex_total}
use Rattle.subsets.proofs.Listing.{sound, Among, listed}
use Rattle.subsets.proofs.Visiting.{length_numbers, numbers_first}
use Rattle.subsets.proofs.Walking.{stands, count_append, count_none, rank_here, past_here, next_here, last_here}

-- ---- the number of k-subsets

length_subsets : (m lo k : ℕ) → length (subsets_from m lo k) ≡ choose m k
length_subsets zero lo zero = refl
length_subsets zero lo (suc k) = refl
length_subsets (suc m) lo zero = refl
length_subsets (suc m) lo (suc k) =
    length-append (map (λ t. lo ∷ t) (subsets_from m (suc lo) k)) (subsets_from m (suc lo) (suc k))
    ∙ ap₂ ◌+◌ (length-map (subsets_from m (suc lo) k) (λ t. lo ∷ t) ∙ length_subsets m (suc lo) k) (length_subsets m (suc lo) (suc k))

-- ---- the rank by the chosen bits

lex_same : (a : ℕ) (s t : List ℕ) → lex_lt (a ∷ s) (a ∷ t) ≡ lex_lt s t
lex_same a s t = rw (le-ltb a a (omega arith), eq-eqb a a refl)

lex_less : (a b : ℕ) (s t : List ℕ) → a < b → lex_lt (a ∷ s) (b ∷ t) ≡ true
lex_less a b s t h = rw (lt-ltb a b h)

count_same : (a : ℕ) (s : List ℕ) (xs : List (List ℕ)) → count_before (a ∷ s) (map (λ t. a ∷ t) xs) ≡ count_before s xs
count_same a s [] = refl
count_same a s (x ∷ xs) = ap₂ ◌+◌ (ap (λ (b : Bool). cond b 1 0) (lex_same a x s)) (count_same a s xs)

count_less : (a b : ℕ) (s : List ℕ) (xs : List (List ℕ)) → a < b → count_before (b ∷ s) (map (λ t. a ∷ t) xs) ≡ length xs
count_less a b s [] h = refl
count_less a b s (x ∷ xs) h =
    ap₂ ◌+◌ (ap (λ (v : Bool). cond v 1 0) (lex_less a b x s h)) (count_less a b s xs h) ∙ omega arith

-- what rises from a + 1 on does not stand before a list that begins with a
later : (a hi k : ℕ) (s x : List ℕ) → Among (suc a) hi (suc k) x → T (lex_lt x (a ∷ s)) → ⊥
later a hi k s [] r l = omega arith
later a hi k s (b ∷ x) r l = elim (lex_cases b a x s l) [ inl h ↦ omega arith | inr h ↦ omega arith ]

-- the subsets before s, s itself, and those after it
rank_from : (m lo hi : ℕ) (s : List ℕ) → lo + m ≡ hi → Rising lo hi s → count_before s (subsets_from m lo (length s)) + 1 + ways_above hi s ≡ choose m (length s)
rank_from zero lo hi [] e r = refl
rank_from zero lo hi (a ∷ s) e r = absurd (omega (arith, r.0, r.1))
rank_from (suc m) lo hi [] e r = refl
rank_from (suc m) lo hi (a ∷ s) e r =
    ap (λ (n : ℕ). n + 1 + ways_above hi (a ∷ s)) (count_append (a ∷ s) (map (λ t. lo ∷ t) with_lo) without)
    ∙ go (eq-or-lt_of_le r.0) (rank_from m (suc lo) hi s (omega arith)) (rank_from m (suc lo) hi (a ∷ s) (omega arith))
  where
    with_lo : List (List ℕ)
    with_lo = subsets_from m (suc lo) (length s)

    without : List (List ℕ)
    without = subsets_from m (suc lo) (suc (length s))

    none : (x : List ℕ) → Memᴰ x without → T (lex_lt x (lo ∷ s)) → ⊥
    none x p = later lo hi (length s) s x (sound m (suc lo) hi (suc (length s)) x (omega arith) p)

    go : (lo ≡ a) ⊎ (lo < a)
        → (Rising (suc lo) hi s → count_before s with_lo + 1 + ways_above hi s ≡ choose m (length s))
        → (Rising (suc lo) hi (a ∷ s) → count_before (a ∷ s) without + 1 + ways_above hi (a ∷ s) ≡ choose m (suc (length s)))
        → count_before (a ∷ s) (map (λ t. lo ∷ t) with_lo) + count_before (a ∷ s) without + 1 + ways_above hi (a ∷ s) ≡ choose m (length s) + choose m (suc (length s))
    go (inl q) f g =
        let left : hi - 1 - lo ≡ m = omega arith in
        rw (← q, left)
        (omega (arith, count_same lo s with_lo, f (subst (λ (z : ℕ). Rising (suc z) hi s) (sym q) r.2), count_none (lo ∷ s) without none))
    go (inr q) f g = omega (arith, count_less lo a s with_lo q, length_subsets m (suc lo) (length s), g (q, r.1, r.2))

-- ---- from each to the next

module _ (B k : ℕ) where
  total : length (subsets B k) ≡ choose B k
  total = length_subsets B 0 k

  whole : (s : List ℕ) → Subset B k s → rank_of B s + 1 + ways_above B s ≡ choose B k
  whole s h = rank_from B 0 B s (zero-add B) h.rising ∙ ap (choose B) h.size

  -- the list's length, at the place of s
  split : (pre : List (List ℕ)) (s : List ℕ) (rest : List (List ℕ)) → subsets B k ≡ pre ++ (s ∷ rest) → length pre + suc (length rest) ≡ choose B k
  split pre s rest e = sym (length-append pre (s ∷ rest)) ∙ sym (ap length e) ∙ total

  below : (s : List ℕ) → Subset B k s → rank_of B s < choose B k
  below s h = let w = stands B k s h in omega (arith, rank_here B k w.pre s w.rest w.here h.size, split w.pre s w.rest w.here)

  first : k ≤ B → rank_of B (numbers_from 0 k) ≡ 0
  first h = ap (λ (n : ℕ). count_before (numbers_from 0 k) (subsets B n)) (length_numbers 0 k) ∙ count_none (numbers_from 0 k) (subsets B k) none
    where
      none : (x : List ℕ) → Memᴰ x (subsets B k) → T (lex_lt x (numbers_from 0 k)) → ⊥
      none x p l = elim (numbers_first B k x ((listed B k).sound x p)) [
        | inl e ↦ lex_irrefl (numbers_from 0 k) (subst (λ (w : List ℕ). T (lex_lt w (numbers_from 0 k))) e l)
        | inr q ↦ lex_asym x (numbers_from 0 k) l q
      ]

  last : (s : List ℕ) → Subset B k s → Last B k s → suc (rank_of B s) ≡ choose B k
  last s h z =
      let w = stands B k s h in
      let e : length w.rest ≡ 0 = ap length (last_here B k w.pre s w.rest w.here z) in
      omega (arith, rank_here B k w.pre s w.rest w.here h.size, split w.pre s w.rest w.here)

  rises : (s t : List ℕ) → Subset B k s → Subset B k t → T (lex_lt s t) → rank_of B s < rank_of B t
  rises s t h g l =
      let w = stands B k s h in
      let v = past_here B k w.pre s w.rest w.here t g l in
      omega (
        arith,
        rank_here B k w.pre s w.rest w.here h.size,
        rank_here B k (w.pre ++ (s ∷ v.0)) t v.1 v.2 g.size,
        length-append w.pre (s ∷ v.0),
      )

  next : (s t : List ℕ) → Subset B k s → Next B k s t → rank_of B t ≡ suc (rank_of B s)
  next s t h n =
      let w = stands B k s h in
      let v = next_here B k w.pre s w.rest w.here t n in
      let e : subsets B k ≡ (w.pre ++ (s ∷ [])) ++ (t ∷ v.0) = w.here ∙ ap (λ (r : List (List ℕ)). w.pre ++ (s ∷ r)) v.1 ∙ sym (append_assoc w.pre (s ∷ []) (t ∷ v.0)) in
      omega (
        arith,
        rank_here B k w.pre s w.rest w.here h.size,
        rank_here B k (w.pre ++ (s ∷ [])) t v.0 e n.subset.size,
        length-append w.pre (s ∷ []),
      )

  same : (s t : List ℕ) → Subset B k s → Subset B k t → rank_of B s ≡ rank_of B t → s ≡ t
  same s t h g e = elim (lex_total s t) [
    | inl l ↦ absurd (omega (arith, rises s t h g l))
    | inr (inl q) ↦ q
    | inr (inr l) ↦ absurd (omega (arith, rises t s g h l))
  ]

  ranks_here : Ranks B k
  ranks_here = record {
    total = total;
    index = λ s h. omega (arith, whole s h);
    whole = whole;
    below = below;
    first = first;
    next = next;
    last = last;
    rises = rises;
    same = same;
  }

pub ranks : SubsetsRanked
ranks = ranks_here

-- a loop's measure: how many subsets are left
pub next_falls : (B k : ℕ) (s t : List ℕ) → Subset B k s → Next B k s t → choose B k - rank_of B t < choose B k - rank_of B s
next_falls B k s t h n = omega (arith, (ranks B k).next s t h n, (ranks B k).below t n.subset)
