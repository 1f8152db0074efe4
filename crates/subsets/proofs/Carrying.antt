-- The step from a subset to the next, from its last bit leftwards.
use mathlib.Core.Path.{◌≡◌, refl, sym, ap, subst, ◌∙◌}
use mathlib.Core.Logic.{◌⊎◌, inl, inr}
use Prim.Native.Nat.{ℕ, zero, suc, ◌-◌, ◌≤◌, ◌<◌}
use native.Mathlib.Nat.{le_trans, eq-or-lt_of_le, suc_inj}
use native.Mathlib.Numerals.{sub-one}
use native.Mathlib.Omega.{arith}
use mathlib.Core.Bool.{Bool, true, false, true≢false, false≢true}
use mathlib.Core.List.{List, [], ◌∷◌, ◌++◌}
use lib.Dec.{T}
use lib.ListN.{length, take, drop, set, get_or, length-take, length-drop}
use lib.Seq.{take-suc, take-suc-set, drop-set-lt}
use Rattle.subsets.specs.Subsets.{Rising, Subset, lex_lt, Next, Last}
use Rattle.subsets.specs.Stepping.{Stepped}
use Rattle.subsets.proofs.Lex.{lex_head, lex_tail, lex_cases}
use Rattle.subsets.proofs.Filling.{drop_next}

-- ---- a list with one more at its end

abbrev pub snoc : List ℕ → ℕ → List ℕ
snoc s a = s ++ (a ∷ [])

-- all below the last
rising_init : (lo hi a : ℕ) (s : List ℕ) → Rising lo hi (snoc s a) → Rising lo a s × (lo ≤ a) × (a < hi)
rising_init lo hi a [] r = (tt, r.0, r.1)
rising_init lo hi a (b ∷ s) r = let w = rising_init (suc b) hi a s r.2 in ((r.0, w.1, w.0), le_trans r.0 (omega arith), w.2)

rising_snoc : (lo hi a : ℕ) (s : List ℕ) → Rising lo a s → lo ≤ a → a < hi → Rising lo hi (snoc s a)
rising_snoc lo hi a [] r l h = (l, h, tt)
rising_snoc lo hi a (b ∷ s) r l h = (r.0, omega arith, rising_snoc (suc b) hi a s r.2 r.1 h)

rising_below : (lo hi hi' : ℕ) (s : List ℕ) → hi ≤ hi' → Rising lo hi s → Rising lo hi' s
rising_below lo hi hi' [] h r = tt
rising_below lo hi hi' (a ∷ s) h r = (r.0, omega arith, rising_below (suc a) hi hi' s h r.2)

pub length_snoc : (s : List ℕ) (a : ℕ) → length (snoc s a) ≡ suc (length s)
length_snoc [] a = refl
length_snoc (b ∷ s) a = ap suc (length_snoc s a)

record Unsnoc (k : ℕ) (u : List ℕ) : Type 0 where
  pub init : List ℕ
  pub end : ℕ
  pub is : u ≡ snoc init end
  pub size : length init ≡ k

unsnoc : (k : ℕ) (u : List ℕ) → length u ≡ suc k → Unsnoc k u
unsnoc k [] h = absurd (omega arith)
unsnoc zero (a ∷ []) h = record { init = []; end = a; is = refl; size = refl }
unsnoc zero (a ∷ b ∷ u) h = absurd (omega arith)
unsnoc (suc k) (a ∷ u) h = let w = unsnoc k u (suc_inj h) in record { init = a ∷ w.init; end = w.end; is = ap (λ (z : List ℕ). a ∷ z) w.is; size = ap suc w.size }

-- ---- its order

lex_ends : (s : List ℕ) (a b : ℕ) → a < b → T (lex_lt (snoc s a) (snoc s b))
lex_ends [] a b h = lex_head a b [] [] h
lex_ends (c ∷ s) a b h = lex_tail c (snoc s a) (snoc s b) (lex_ends s a b h)

lex_inits : (s t : List ℕ) (a b : ℕ) → length s ≡ length t → T (lex_lt s t) → T (lex_lt (snoc s a) (snoc t b))
lex_inits [] [] a b e h = absurd h
lex_inits [] (d ∷ t) a b e h = absurd (omega arith)
lex_inits (c ∷ s) [] a b e h = absurd h
lex_inits (c ∷ s) (d ∷ t) a b e h = go (lex_inits s t a b (suc_inj e)) (lex_cases c d s t h)
  where
    go : (T (lex_lt s t) → T (lex_lt (snoc s a) (snoc t b))) → (c < d) ⊎ ((c ≡ d) × T (lex_lt s t)) → T (lex_lt (c ∷ snoc s a) (d ∷ snoc t b))
    go f (inl l) = lex_head c d (snoc s a) (snoc t b) l
    go f (inr w) = rw w.0 (lex_tail d (snoc s a) (snoc t b) (f w.1))

lex_snoc_cases : (s t : List ℕ) (a b : ℕ) → length s ≡ length t → T (lex_lt (snoc s a) (snoc t b)) → T (lex_lt s t) ⊎ ((s ≡ t) × (a < b))
lex_snoc_cases [] [] a b e h = elim (lex_cases a b [] [] h) [ inl l ↦ inr (refl, l) | inr w ↦ absurd w.1 ]
lex_snoc_cases [] (d ∷ t) a b e h = absurd (omega arith)
lex_snoc_cases (c ∷ s) [] a b e h = absurd (omega arith)
lex_snoc_cases (c ∷ s) (d ∷ t) a b e h = go (lex_cases c d (snoc s a) (snoc t b) h) (lex_snoc_cases s t a b (suc_inj e))
  where
    go : (c < d) ⊎ ((c ≡ d) × T (lex_lt (snoc s a) (snoc t b))) → (T (lex_lt (snoc s a) (snoc t b)) → T (lex_lt s t) ⊎ ((s ≡ t) × (a < b)))
        → T (lex_lt (c ∷ s) (d ∷ t)) ⊎ ((c ∷ s ≡ d ∷ t) × (a < b))
    go (inl l) f = inl (lex_head c d s t l)
    go (inr w) f = elim (f w.1) [
      | inl x ↦ inl (rw w.0 (lex_tail d s t x))
      | inr x ↦ inr (let y : s ≡ t = x.0 in let z : c ≡ d = w.0 in cc, x.1)
    ]

-- ---- the last bit has room

subset_init : (B k : ℕ) (s : List ℕ) (a : ℕ) → Subset B (suc k) (snoc s a) → Subset a k s
subset_init B k s a h = record { size = suc_inj (sym (length_snoc s a) ∙ h.size); rising = (rising_init 0 B a s h.rising).0 }

subset_end : (B k : ℕ) (s : List ℕ) (a : ℕ) → Subset B (suc k) (snoc s a) → a < B
subset_end B k s a h = (rising_init 0 B a s h.rising).2

subset_snoc : (B k : ℕ) (s : List ℕ) (a : ℕ) → Subset a k s → a < B → Subset B (suc k) (snoc s a)
subset_snoc B k s a h l = record { size = length_snoc s a ∙ ap suc h.size; rising = rising_snoc 0 B a s h.rising (omega arith) l }

subset_below : (B B' k : ℕ) (s : List ℕ) → B ≤ B' → Subset B k s → Subset B' k s
subset_below B B' k s h r = record { size = r.size; rising = rising_below 0 B B' s h r.rising }

-- what holds of each subset that is written with its last bit apart holds of each
by_end : (B k : ℕ) (P : List ℕ → Type 0) → ((v : List ℕ) (x : ℕ) → Subset B (suc k) (snoc v x) → P (snoc v x)) → (u : List ℕ) → Subset B (suc k) u → P u
by_end B k P f u U = let w = unsnoc k u U.size in subst P (sym w.is) (f w.init w.end (subst (Subset B (suc k)) w.is U))

pub bump : (B k : ℕ) (s : List ℕ) (a : ℕ) → Subset B (suc k) (snoc s a) → suc a < B → Next B (suc k) (snoc s a) (snoc s (suc a))
bump B k s a h l = record {
  subset = subset_snoc B k s (suc a) (subset_below a (suc a) k s (omega arith) (subset_init B k s a h)) l;
  after = lex_ends s a (suc a) (omega arith);
  least = by_end B k (λ u. T (lex_lt (snoc s a) u) → (u ≡ snoc s (suc a)) ⊎ T (lex_lt (snoc s (suc a)) u)) least;
}
  where
    least : (v : List ℕ) (x : ℕ) → Subset B (suc k) (snoc v x) → T (lex_lt (snoc s a) (snoc v x)) → (snoc v x ≡ snoc s (suc a)) ⊎ T (lex_lt (snoc s (suc a)) (snoc v x))
    least v x W q = go (lex_snoc_cases s v a x same q)
      where
        same : length s ≡ length v
        same = (subset_init B k s a h).size ∙ sym (subset_init B k v x W).size

        ends : s ≡ v → (suc a ≡ x) ⊎ (suc a < x) → (snoc v x ≡ snoc s (suc a)) ⊎ T (lex_lt (snoc s (suc a)) (snoc v x))
        ends e (inl p) = inl (rw (← e, ← p))
        ends e (inr p) = inr (rw (← e) (lex_ends s (suc a) x p))

        go : T (lex_lt s v) ⊎ ((s ≡ v) × (a < x)) → (snoc v x ≡ snoc s (suc a)) ⊎ T (lex_lt (snoc s (suc a)) (snoc v x))
        go (inl p) = inr (lex_inits s v (suc a) x same p)
        go (inr w) = ends w.0 (eq-or-lt_of_le w.1)

-- ---- the last bit is at its end: the bits before it step, and it follows them

carry : (k : ℕ) (s : List ℕ) (a : ℕ) (t : List ℕ) (y : ℕ) → Subset (suc a) (suc (suc k)) (snoc s a) → Next a (suc k) s (snoc t y)
    → Next (suc a) (suc (suc k)) (snoc s a) (snoc (snoc t y) (suc y))
carry k s a t y h n = record {
  subset = subset_snoc (suc a) (suc k) (snoc t y) (suc y) (subset_snoc (suc y) k t y (subset_init a k t y n.subset) (omega arith)) (omega (arith, subset_end a k t y n.subset));
  after = lex_inits s (snoc t y) a (suc y) ((subset_init (suc a) (suc k) s a h).size ∙ sym n.subset.size) n.after;
  least = by_end (suc a) (suc k) (λ u. T (lex_lt (snoc s a) u) → (u ≡ snoc (snoc t y) (suc y)) ⊎ T (lex_lt (snoc (snoc t y) (suc y)) u)) least;
}
  where
    least : (v : List ℕ) (x : ℕ) → Subset (suc a) (suc (suc k)) (snoc v x) → T (lex_lt (snoc s a) (snoc v x)) → (snoc v x ≡ snoc (snoc t y) (suc y)) ⊎ T (lex_lt (snoc (snoc t y) (suc y)) (snoc v x))
    least v x W q = go (lex_snoc_cases s v a x ((subset_init (suc a) (suc k) s a h).size ∙ sym init.size) q)
      where
        init : Subset x (suc k) v
        init = subset_init (suc a) (suc k) v x W

        below : x < suc a
        below = subset_end (suc a) (suc k) v x W

        ends : v ≡ snoc t y → (suc y ≡ x) ⊎ (suc y < x) → (snoc v x ≡ snoc (snoc t y) (suc y)) ⊎ T (lex_lt (snoc (snoc t y) (suc y)) (snoc v x))
        ends e (inl p) = inl (rw (e, ← p))
        ends e (inr p) = inr (rw e (lex_ends (snoc t y) (suc y) x p))

        step : (v ≡ snoc t y) ⊎ T (lex_lt (snoc t y) v) → (snoc v x ≡ snoc (snoc t y) (suc y)) ⊎ T (lex_lt (snoc (snoc t y) (suc y)) (snoc v x))
        step (inl e) = ends e (eq-or-lt_of_le (subset_end x k t y (subst (Subset x (suc k)) e init)))
        step (inr p) = inr (lex_inits (snoc t y) v (suc y) x (n.subset.size ∙ sym init.size) p)

        go : T (lex_lt s v) ⊎ ((s ≡ v) × (a < x)) → (snoc v x ≡ snoc (snoc t y) (suc y)) ⊎ T (lex_lt (snoc (snoc t y) (suc y)) (snoc v x))
        go (inl p) = step (n.least v (subset_below x a (suc k) v (omega (arith, below)) init) p)
        go (inr w) = absurd (omega (arith, below))

ended : (k : ℕ) (s : List ℕ) (a : ℕ) → Subset (suc a) (suc k) (snoc s a) → Last a k s → Last (suc a) (suc k) (snoc s a)
ended k s a h n = record { none = by_end (suc a) k (λ u. T (lex_lt (snoc s a) u) → ⊥) none }
  where
    none : (v : List ℕ) (x : ℕ) → Subset (suc a) (suc k) (snoc v x) → T (lex_lt (snoc s a) (snoc v x)) → ⊥
    none v x W q = go (lex_snoc_cases s v a x ((subset_init (suc a) k s a h).size ∙ sym (subset_init (suc a) k v x W).size) q)
      where
        go : T (lex_lt s v) ⊎ ((s ≡ v) × (a < x)) → ⊥
        go (inl p) = n.none v (subset_below x a k v (omega (arith, subset_end (suc a) k v x W)) (subset_init (suc a) k v x W)) p
        go (inr w) = omega (arith, subset_end (suc a) k v x W)

none_after_empty : (B : ℕ) (s : List ℕ) → length s ≡ 0 → Last B 0 s
none_after_empty B [] h = record { none = none }
  where
    none : (u : List ℕ) → Subset B 0 u → T (lex_lt [] u) → ⊥
    none [] U q = q
    none (x ∷ u) U q = omega arith
none_after_empty B (x ∷ s) h = absurd (omega arith)

-- ---- the same on an array

-- the first p + 1 entries, with the last apart
front : (p : ℕ) (l : List ℕ) → p < length l → take (suc p) l ≡ snoc (take p l) (get_or l p 0)
front p l h = take-suc l p 0 h

rest_after : (p : ℕ) (l l' : List ℕ) → drop p l' ≡ drop p l → drop (suc p) l' ≡ drop (suc p) l
rest_after p l l' e = drop_next p l' ∙ ap (drop 1) e ∙ sym (drop_next p l)

split : (B p : ℕ) (l : List ℕ) → p < length l → Subset B (suc p) (take (suc p) l) → Subset B (suc p) (snoc (take p l) (get_or l p 0))
split B p l room h = subst (Subset B (suc p)) (front p l room) h

-- the last bit has room
array_bump : (B p : ℕ) (l : List ℕ) → p < length l → Subset B (suc p) (take (suc p) l) → suc (get_or l p 0) < B → Stepped B (suc p) l true (set l p (suc (get_or l p 0)))
array_bump B p l room h b = record {
  next = λ _. rw (front p l room, take-suc-set l p (suc (get_or l p 0)) room) (bump B p (take p l) (get_or l p 0) (split B p l room h) b);
  last = λ e. absurd (true≢false e);
  same = λ e. absurd (true≢false e);
  rest = drop-set-lt (suc p) l p (suc (get_or l p 0)) (omega arith);
}

-- no step of an empty list is found
never_none : (B : ℕ) (l l' : List ℕ) → Stepped B 0 l true l' → ⊥
never_none B l l' st = (st.next refl).after

array_carry : (p : ℕ) (l l' : List ℕ) (a : ℕ) → a ≡ get_or l p 0 → p < length l → p < length l' → Subset (suc a) (suc p) (take (suc p) l) → Stepped a p l true l'
    → Stepped (suc a) (suc p) l true (set l' p (suc (get_or l' (p - 1) 0)))
array_carry zero l l' a e room room' h st = absurd (never_none a l l' st)
array_carry (suc q) l l' a e room room' h st = rw sub-one (record {
  next = λ _.
      rw (front (suc q) l room, take-suc-set l' (suc q) (suc (get_or l' q 0)) room', front q l' (omega arith), ← e)
      (carry q (take (suc q) l) a (take q l') (get_or l' q 0)
      (rw e (subst (λ (z : ℕ). Subset (suc z) (suc (suc q)) (snoc (take (suc q) l) (get_or l (suc q) 0))) e (split (suc a) (suc q) l room h)))
      (subst (Next a (suc q) (take (suc q) l)) (front q l' (omega arith)) (st.next refl)));
  last = λ x. absurd (true≢false x);
  same = λ x. absurd (true≢false x);
  rest = drop-set-lt (suc (suc q)) l' (suc q) (suc (get_or l' q 0)) (omega arith) ∙ rest_after (suc q) l l' st.rest;
})

array_ended : (p : ℕ) (l l' : List ℕ) (a : ℕ) → a ≡ get_or l p 0 → p < length l → Subset (suc a) (suc p) (take (suc p) l) → Stepped a p l false l' → Stepped (suc a) (suc p) l false l'
array_ended p l l' a e room h st = record {
  next = λ x. absurd (false≢true x);
  last = λ _. rw (front p l room, ← e) (ended p (take p l) a (subst (λ (z : ℕ). Subset (suc a) (suc p) (snoc (take p l) z)) (sym e) (split (suc a) p l room h)) (st.last refl));
  same = λ _. st.same refl;
  rest = ap (drop (suc p)) (st.same refl);
}

-- ---- the same as the code has it: k at least 1, and its last entry at k - 1

-- a subset of k bits fills k entries
pub fills : (B k : ℕ) (l : List ℕ) → Subset B k (take k l) → k ≤ length l
fills B k l h = omega (arith, length-take k l, h.size)

-- a step keeps the length past k
keeps_room : (B k : ℕ) (l l' : List ℕ) (f : Bool) → k < length l → Stepped B k l f l' → k < length l'
keeps_room B k l l' f h st = omega (arith, length-drop k l, length-drop k l', ap length st.rest)

-- the last bit is below the block's size, and the bits before it are below the last
pub code_last : (B k q : ℕ) (l : List ℕ) → k ≡ suc q → Subset B k (take k l) → get_or l q 0 < B
code_last B k q l e h =
    let h' : Subset B (suc q) (take (suc q) l) = rw e at h in
    subset_end B q (take q l) (get_or l q 0) (split B q l (fills B (suc q) l h') h')

pub code_init : (B E k q : ℕ) (l : List ℕ) → k ≡ suc q → get_or l q 0 ≤ E → Subset B k (take k l) → Subset E q (take q l)
code_init B E k q l e le h =
    let h' : Subset B (suc q) (take (suc q) l) = rw e at h in
    subset_below (get_or l q 0) E q (take q l) le (subset_init B q (take q l) (get_or l q 0) (split B q l (fills B (suc q) l h') h'))

pub code_bump : (B k q v : ℕ) (l : List ℕ) → k ≡ suc q → Subset B k (take k l) → v ≡ suc (get_or l q 0) → v < B → Stepped B k l true (set l q v)
code_bump B k q v l e h ev b =
    let h' : Subset B (suc q) (take (suc q) l) = rw e at h in
    rw (e, ev) (array_bump B q l (fills B (suc q) l h') h' (omega arith))

pub code_carry : (B E k q v : ℕ) (l l' : List ℕ) (f : Bool) → k ≡ suc q → B ≡ suc E → E ≤ get_or l q 0 → Subset B k (take k l) → f ≡ true → Stepped E q l f l'
    → v ≡ suc (get_or l' (q - 1) 0) → Stepped B k l true (set l' q v)
code_carry B E k q v l l' f e eb ge h ef st ev =
    let h₁ : Subset (suc E) k (take k l) = subst (λ (z : ℕ). Subset z k (take k l)) eb h in
    let h₂ : Subset (suc E) (suc q) (take (suc q) l) = subst (λ (z : ℕ). Subset (suc E) z (take z l)) e h₁ in
    let room : q < length l = fills (suc E) (suc q) l h₂ in
    let at : E ≡ get_or l q 0 = omega (arith, code_last (suc E) (suc q) q l refl h₂) in
    let st' : Stepped E q l true l' = subst (λ (z : Bool). Stepped E q l z l') ef st in
    rw (e, eb, ev) (array_carry q l l' E at room (keeps_room E q l l' true room st') h₂ st')

pub code_ended : (B E k q : ℕ) (l l' : List ℕ) (f : Bool) → k ≡ suc q → B ≡ suc E → E ≤ get_or l q 0 → Subset B k (take k l) → f ≡ false → Stepped E q l f l' → Stepped B k l false l'
code_ended B E k q l l' f e eb ge h ef st =
    let h₁ : Subset (suc E) k (take k l) = subst (λ (z : ℕ). Subset z k (take k l)) eb h in
    let h₂ : Subset (suc E) (suc q) (take (suc q) l) = subst (λ (z : ℕ). Subset (suc E) z (take z l)) e h₁ in
    let room : q < length l = fills (suc E) (suc q) l h₂ in
    let at : E ≡ get_or l q 0 = omega (arith, code_last (suc E) (suc q) q l refl h₂) in
    let st' : Stepped E q l false l' = subst (λ (z : Bool). Stepped E q l z l') ef st in
    rw (e, eb) (array_ended q l l' E at room h₂ st')

-- a step that is found has a last bit, below the block's size
pub code_some : (B k : ℕ) (l l' : List ℕ) (f : Bool) → f ≡ true → Stepped B k l f l' → (1 ≤ k) × (get_or l' (k - 1) 0 < B)
code_some B zero l l' f ef st = absurd (never_none B l l' (subst (λ (z : Bool). Stepped B 0 l z l') ef st))
code_some B (suc q) l l' f ef st = (omega arith, rw sub-one (code_last B (suc q) q l' refl (st.next ef).subset))
