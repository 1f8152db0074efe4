-- The tests of a list of bits, entry by entry, and what they show together.
use mathlib.Core.Path.{◌≡◌, refl, sym, ap, ◌∙◌}
use Prim.Native.Nat.{ℕ, zero, suc, ◌+◌, ◌≤◌, ◌<◌}
use native.Mathlib.Nat.{suc-add}
use native.Mathlib.Numerals.{add-one}
use native.Mathlib.Omega.{arith}
use mathlib.Core.Bool.{Bool, true, false, cond}
use mathlib.Core.List.{List, [], ◌∷◌}
use lib.Dec.{ltb}
use lib.ListN.{length, drop, get_or, length-drop, drop_of_length-le}
use lib.Seq.{drop-cons}
use borrow.Author.Tests.{lt-ltb, le-ltb, ltb-true}
use Rattle.std.specs.Prelude.{◌↔◌, IsTrue, All}
use Rattle.std.specs.List.{AllAdjacentBelow, IsAllAdjacentAnswer}
use Rattle.std.proofs.lemmas.List.Elements.{All-nil, All-cons, All-tail}
use Rattle.counting.proofs.Accepted.{both}
use Rattle.subsets.specs.Subsets.{Rising, Subset}
use Rattle.subsets.specs.Bits.{increasing, within, bits_refusal}

-- ---- increasing, by each bit and the next

pairs_rise : (s : List ℕ) → AllAdjacentBelow (λ a b. true ≡ ltb a b) s (length s) → true ≡ increasing s
unfolding increasing
pairs_rise [] h = refl
pairs_rise (a ∷ []) h = refl
pairs_rise (a ∷ b ∷ s) h = rw (sym (h 0 0 (omega arith))) (pairs_rise (b ∷ s) (λ k d l. simp suc-add at (h (suc k) d (omega arith))))

pair_falls : (s : List ℕ) (k : ℕ) → k + 1 < length s → ((d : ℕ) → false ≡ ltb (get_or s k d) (get_or s (k + 1) d)) → false ≡ increasing s
unfolding increasing
pair_falls [] k l h = absurd (omega arith)
pair_falls (a ∷ []) k l h = absurd (omega arith)
pair_falls (a ∷ b ∷ s) zero l h = rw (sym (h 0)) refl
pair_falls (a ∷ b ∷ s) (suc k) l h = go (ltb a b) (pair_falls (b ∷ s) k (omega arith) (λ d. simp suc-add at (h d)))
  where
    go : (x : Bool) → false ≡ increasing (b ∷ s) → false ≡ cond x (increasing (b ∷ s)) false
    go true e = e
    go false e = refl

pub increasing_by_pairs : (s : List ℕ) (r : Bool) → IsAllAdjacentAnswer (λ a b x. x ≡ ltb a b) s r → r ≡ increasing s
increasing_by_pairs s true h = pairs_rise s h
increasing_by_pairs s false h = pair_falls s h.0 h.1 h.2

-- ---- within the block, bit by bit

all_within : (B : ℕ) (s : List ℕ) → All (λ a. a < B) s → within B s ≡ true
unfolding within
all_within B [] h = refl
all_within B (a ∷ s) h = rw (lt-ltb a B (h 0 0 (omega arith))) (all_within B s (All-tail (λ b. b < B) a s h))

within_each : (B : ℕ) (s : List ℕ) → within B s ≡ true → All (λ a. a < B) s
unfolding within
within_each B [] h = All-nil (λ b. b < B)
within_each B (a ∷ s) h =
    let w = both (ltb a B) (within B s) h in
    All-cons (λ b. b < B) a s (ltb-true a B w.0) (within_each B s w.1)

pub within_by_each : (B : ℕ) (s : List ℕ) (r : Bool) → (IsTrue r ↔ All (λ a. a < B) s) → r ≡ within B s
within_by_each B s r h = same_tests r (within B s) (λ e. all_within B s (h.0 e)) (λ e. h.1 (within_each B s e))
  where
    same_tests : (a b : Bool) → (a ≡ true → b ≡ true) → (b ≡ true → a ≡ true) → a ≡ b
    same_tests true b f g = sym (f refl)
    same_tests false true f g = g refl
    same_tests false false f g = refl

-- ---- increasing, from entry i on

two : (l : List ℕ) (i : ℕ) → i + 1 < length l → drop i l ≡ get_or l i 0 ∷ get_or l (i + 1) 0 ∷ drop (suc (i + 1)) l
two l i h = drop-cons l i 0 (omega arith) ∙ ap (λ (m : List ℕ). get_or l i 0 ∷ m) (ap (λ (j : ℕ). drop j l) (sym (add-one i)) ∙ drop-cons l (i + 1) 0 h)

pub increasing_more : (l : List ℕ) (i : ℕ) → i + 1 < length l → get_or l i 0 < get_or l (i + 1) 0 → increasing (drop i l) ≡ increasing l → increasing (drop (i + 1) l) ≡ increasing l
unfolding increasing
increasing_more l i h lt e =
    ap increasing (drop-cons l (i + 1) 0 h) ∙ sym (ap increasing (two l i h) ∙ rw (lt-ltb (get_or l i 0) (get_or l (i + 1) 0) lt) refl) ∙ e

pub increasing_no : (l : List ℕ) (i : ℕ) → i + 1 < length l → get_or l (i + 1) 0 ≤ get_or l i 0 → increasing (drop i l) ≡ increasing l → false ≡ increasing l
unfolding increasing
increasing_no l i h le e = sym (ap increasing (two l i h) ∙ rw (le-ltb (get_or l i 0) (get_or l (i + 1) 0) le) refl) ∙ e

pub increasing_end : (l : List ℕ) (i : ℕ) → length l ≤ i + 1 → increasing (drop i l) ≡ increasing l → true ≡ increasing l
unfolding increasing
increasing_end l i h e = short (drop i l) (omega (arith, length-drop i l)) ∙ e
  where
    short : (s : List ℕ) → length s ≤ 1 → true ≡ increasing s
    short [] g = refl
    short (a ∷ []) g = refl
    short (a ∷ b ∷ s) g = absurd (omega arith)

-- ---- within the block, from entry i on

pub within_more : (B : ℕ) (l : List ℕ) (i : ℕ) → i < length l → get_or l i 0 < B → within B (drop i l) ≡ within B l → within B (drop (i + 1) l) ≡ within B l
unfolding within
within_more B l i h lt e =
    ap (λ (j : ℕ). within B (drop j l)) (add-one i) ∙ sym (ap (within B) (drop-cons l i 0 h) ∙ rw (lt-ltb (get_or l i 0) B lt) refl) ∙ e

pub within_no : (B : ℕ) (l : List ℕ) (i : ℕ) → i < length l → B ≤ get_or l i 0 → within B (drop i l) ≡ within B l → false ≡ within B l
unfolding within
within_no B l i h le e = sym (ap (within B) (drop-cons l i 0 h) ∙ rw (le-ltb (get_or l i 0) B le) refl) ∙ e

pub within_end : (B : ℕ) (l : List ℕ) (i : ℕ) → length l ≤ i → within B (drop i l) ≡ within B l → true ≡ within B l
unfolding within
within_end B l i h e = sym (ap (within B) (drop_of_length-le l h)) ∙ e

-- ---- together they say that the bits are a subset

rises : (B lo a : ℕ) (s : List ℕ) → lo ≤ a → increasing (a ∷ s) ≡ true → within B (a ∷ s) ≡ true → Rising lo B (a ∷ s)
unfolding increasing within
rises B lo a [] h i w = (h, ltb-true a B (both (ltb a B) true w).0, tt)
rises B lo a (b ∷ s) h i w =
    let x = both (ltb a B) (within B (b ∷ s)) w in
    let y = both (ltb a b) (increasing (b ∷ s)) i in
    (h, ltb-true a B x.0, rises B (suc a) b s (ltb-true a b y.0) y.1 x.1)

pub subset_of : (B k : ℕ) (s : List ℕ) → length s ≡ k → increasing s ≡ true → within B s ≡ true → Subset B k s
subset_of B k [] e i w = record { size = e; rising = tt }
subset_of B k (a ∷ s) e i w = record { size = e; rising = rises B 0 a s (omega arith) i w }

pub accepted : (B k : ℕ) (s : List ℕ) → length s ≡ k → bits_refusal B s ≡ 0 → Subset B k s
unfolding bits_refusal
accepted B k s e r = go (increasing s) (within B s) refl refl
  where
    go : (a b : Bool) → increasing s ≡ a → within B s ≡ b → Subset B k s
    go true true p q = subset_of B k s e p q
    go true false p q = absurd (omega (arith, simp (p, q) at r))
    go false true p q = absurd (omega (arith, simp (p, q) at r))
    go false false p q = absurd (omega (arith, simp (p, q) at r))

-- ---- and a subset passes them

passes : (B lo : ℕ) (s : List ℕ) → Rising lo B s → (increasing s ≡ true) × (within B s ≡ true)
unfolding increasing within
passes B lo [] r = (refl, refl)
passes B lo (a ∷ []) r = (refl, rw (lt-ltb a B r.1))
passes B lo (a ∷ b ∷ s) r =
    let w = passes B (suc a) (b ∷ s) r.2 in
    (rw (lt-ltb a b r.2.0) w.0, rw (lt-ltb a B r.1) w.1)

pub not_refused : (B k : ℕ) (s : List ℕ) → Subset B k s → bits_refusal B s ≡ 0
unfolding bits_refusal
not_refused B k s h = let w = passes B 0 s h.rising in rw (w.0, w.1)
