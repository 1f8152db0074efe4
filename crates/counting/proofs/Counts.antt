-- Counts of a sample: one bit of a bin at a time, some blocks at a time; samples that agree have the same counts (`same_counts`), and a subset's counts add
-- up to the number of blocks (`counts_add_up`).
use mathlib.Core.Path.{◌≡◌, refl, sym, ap, ap₂, ◌∙◌}
use mathlib.Core.Bool.{Bool, true, false, cond}
use mathlib.Core.List.{List, [], ◌∷◌, ◌++◌}
use Prim.Native.Nat.{ℕ, zero, suc, ◌+◌, ◌-◌, ◌*◌, ◌/◌, ◌%◌, ◌^◌, ◌≤◌, ◌<◌, min, zero-le}
use native.Mathlib.Omega.{arith}
use native.Mathlib.Decide.{dec_lt, ℕ_discrete}
use native.Mathlib.Nat.{mod-lt, pow-suc, add_comm, add-zero, add-suc, mul_assoc, zero-min, lt_of_lt_of_le, mod-eq_of_lt}
use native.Mathlib.Numerals.{one-add}
use lib.Count.{ones, ones_cat}
use lib.Dec.{eqb, ltb, lit<}
use lib.ListN.{length, get_or, drop, length-append, length-drop, get_or-append}
use lib.Pow.{pow_pos, pow_mono, mod-pow-add, high, low}
use lib.Seq.{get_or-append_seam, drop-cons, ext_get_or}
use borrow.Author.Tests.{eq-eqb, ne_eqb, lt-ltb, le-ltb}
use Rattle.counting.specs.Block.{bit_at, bin_of}
use Rattle.counting.specs.Sample.{same, count_in, list_of, counts_of, sum_to, total, Below, AgreeBelow, Bits, SameCounts, CountsAddUp}
use Rattle.counting.proofs.Lanes.{bit_lt}

-- ---- equal or not

pub same_eq : (a b : ℕ) → a ≡ b → same a b ≡ 1
same_eq a b e = ap (λ (t : Bool). cond t 1 0) (eq-eqb a b e)

pub same_ne : (a b : ℕ) → (a ≡ b → ⊥) → same a b ≡ 0
same_ne a b h = ap (λ (t : Bool). cond t 1 0) (ne_eqb a b h)

pub same_le : (a b : ℕ) → same a b ≤ 1
same_le a b = go (eqb a b)
  where
    go : (t : Bool) → cond t 1 0 ≤ 1
    go true = omega arith
    go false = omega arith

-- two numbers of one digit more are equal where both parts are
pub same_step : (i x y a c : ℕ) → a < 2 ^ i → c < 2 ^ i → same (x * 2 ^ i + a) (y * 2 ^ i + c) ≡ min (same a c) (same x y)
same_step i x y a c ha hc = go (ℕ_discrete a c) (ℕ_discrete x y)
  where
    go : Dec (a ≡ c) → Dec (x ≡ y) → same (x * 2 ^ i + a) (y * 2 ^ i + c) ≡ min (same a c) (same x y)
    go (yes p) (yes q) = rw (same_eq a c p, same_eq x y q) (same_eq (x * 2 ^ i + a) (y * 2 ^ i + c) (cc))
    go (yes p) (no q) =
        rw (same_eq a c p, same_ne x y q)
        (same_ne (x * 2 ^ i + a) (y * 2 ^ i + c) (λ e. q (sym (high x i ha) ∙ ap (λ (z : ℕ). z / 2 ^ i) e ∙ high y i hc)))
    go (no p) d =
        rw (same_ne a c p, zero-min)
        (same_ne (x * 2 ^ i + a) (y * 2 ^ i + c) (λ e. p (sym (low x i ha) ∙ ap (λ (z : ℕ). z % 2 ^ i) e ∙ low y i hc)))

-- ---- a bin, one bit at a time

pub bin_lt : (f : ℕ → ℕ) → ((b : ℕ) → f b < 2) → (bs : List ℕ) → bin_of f bs < 2 ^ length bs
unfolding bin_of
bin_lt f h [] = lit< tt
bin_lt f h (b ∷ bs) = rw pow-suc (omega (arith, h b, bin_lt f h bs))

pub bin_snoc : (f : ℕ → ℕ) (bs : List ℕ) (b : ℕ) → bin_of f (bs ++ (b ∷ [])) ≡ f b * 2 ^ length bs + bin_of f bs
unfolding bin_of
bin_snoc f [] b = omega arith
bin_snoc f (a ∷ bs) b = rw (pow-suc, ← mul_assoc) (omega (arith, bin_snoc f bs b))

-- from its last bit back
pub bin_drop : (f : ℕ → ℕ) (bs : List ℕ) (i : ℕ) → 0 < i → i ≤ length bs
    → bin_of f (drop (i - 1) bs) ≡ f (get_or bs (i - 1) 0) + 2 * bin_of f (drop i bs)
unfolding bin_of
bin_drop f bs i pos h =
    let inside : i - 1 < length bs = omega arith in
    let next : suc (i - 1) ≡ i = omega arith in
    ap (bin_of f) (drop-cons bs (i - 1) 0 inside) ∙ ap (λ (j : ℕ). f (get_or bs (i - 1) 0) + 2 * bin_of f (drop j bs)) next

pub bin_small : (f : ℕ → ℕ) → ((b : ℕ) → f b < 2) → (bs : List ℕ) (i : ℕ) → length bs ≤ 20 → bin_of f (drop i bs) < 2 ^ 20
bin_small f h bs i short =
    lt_of_lt_of_le (bin_lt f h (drop i bs)) (pow_mono (let e : length (drop i bs) ≤ 20 = simp length-drop (omega arith) in e))

pub bin_ext : (f g : ℕ → ℕ) (bs : List ℕ) → ((i : ℕ) → i < length bs → f (get_or bs i 0) ≡ g (get_or bs i 0)) → bin_of f bs ≡ bin_of g bs
unfolding bin_of
bin_ext f g [] h = refl
bin_ext f g (b ∷ bs) h = λ i. h 0 (omega arith) i + 2 * bin_ext f g bs (λ j l. h (suc j) (omega arith)) i

-- the number v, one bit at a time
pub mod_step : (v i : ℕ) → v % 2 ^ suc i ≡ bit_at v i * 2 ^ i + v % 2 ^ i
mod_step v i = ap (λ (k : ℕ). v % 2 ^ k) (sym (one-add i)) ∙ mod-pow-add v 1 i

-- ---- sums

pub sum_ext : (f g : ℕ → ℕ) (m : ℕ) → ((l : ℕ) → l < m → f l ≡ g l) → sum_to f m ≡ sum_to g m
unfolding sum_to
sum_ext f g zero h = refl
sum_ext f g (suc m) h = ap₂ ◌+◌ (sum_ext f g m (λ l p. h l (omega arith))) (h m (omega arith))

pub sum_more : (f : ℕ → ℕ) (base m : ℕ) → sum_to f (base + m) ≡ sum_to f base + sum_to (λ l. f (base + l)) m
unfolding sum_to
sum_more f base zero = rw (add-zero, add-zero)
sum_more f base (suc m) = rw add-suc (omega (arith, sum_more f base m))

sum_add : (f g : ℕ → ℕ) (m : ℕ) → sum_to (λ l. f l + g l) m ≡ sum_to f m + sum_to g m
unfolding sum_to
sum_add f g zero = refl
sum_add f g (suc m) = omega (arith, sum_add f g m)

pub sum_zero : (m : ℕ) → sum_to (λ l. 0) m ≡ 0
unfolding sum_to
sum_zero zero = refl
sum_zero (suc m) = omega (arith, sum_zero m)

-- one of the numbers below m is x, and no more than one
sum_same : (x m : ℕ) → sum_to (same x) m ≡ cond (ltb x m) 1 0
unfolding sum_to
sum_same x zero = rw (le-ltb x 0 zero-le)
sum_same x (suc m) = by_order (dec_lt x m) (sum_same x m)
  where
    by_order : Dec (x < m) → sum_to (same x) m ≡ cond (ltb x m) 1 0 → sum_to (same x) m + same x m ≡ cond (ltb x (suc m)) 1 0
    by_order (yes below) was =
        let next : x < suc m = omega arith in
        rw (lt-ltb x (suc m) next, was, lt-ltb x m below, same_ne x m (λ e. omega arith))
    by_order (no above) was = by_equal (ℕ_discrete x m)
      where
        none : sum_to (same x) m ≡ 0
        none = was ∙ rw (le-ltb x m (let h : m ≤ x = omega arith in h))

        by_equal : Dec (x ≡ m) → sum_to (same x) m + same x m ≡ cond (ltb x (suc m)) 1 0
        by_equal (yes e) =
            let next : x < suc m = omega arith in
            rw (lt-ltb x (suc m) next, none, same_eq x m e)
        by_equal (no ne) =
            let past : suc m ≤ x = omega arith in
            rw (le-ltb x (suc m) past, none, same_ne x m ne)

-- ---- the set bits of a word

ones_bit : (x : ℕ) → x < 2 → ones x ≡ x
unfolding ones
ones_bit zero h = refl
ones_bit (suc zero) h = refl
ones_bit (suc (suc x)) h = absurd (omega arith)

-- the set bits among the first m lanes of a word
pub ones_lanes : (w m : ℕ) → ones (w % 2 ^ m) ≡ sum_to (bit_at w) m
unfolding sum_to ones
ones_lanes w zero = let e : w % 1 ≡ 0 = omega arith in ap ones e
ones_lanes w (suc m) =
    ap ones (mod_step w m) ∙ ones_cat m (bit_at w m) (w % 2 ^ m) (mod-lt w (pow_pos m))
    ∙ ap₂ ◌+◌ (ones_bit (bit_at w m) (bit_lt w m)) (ones_lanes w m) ∙ add_comm (bit_at w m) (sum_to (bit_at w) m)

pub ones_word : (w m : ℕ) → w < 2 ^ m → ones w ≡ sum_to (bit_at w) m
ones_word w m h = ap ones (sym (mod-eq_of_lt h)) ∙ ones_lanes w m

-- ---- a count, some blocks at a time

pub count_more : (bit : ℕ → ℕ → ℕ) (base m : ℕ) (bits : List ℕ) (v : ℕ)
    → count_in bit (base + m) bits v ≡ count_in bit base bits v + sum_to (λ l. same (bin_of (bit (base + l)) bits) v) m
unfolding sum_to count_in
count_more bit base zero bits v = ap (λ (k : ℕ). count_in bit k bits v) (add-zero base) ∙ sym (add-zero (count_in bit base bits v))
count_more bit base (suc m) bits v =
    ap (λ (k : ℕ). count_in bit k bits v) (add-suc base m)
    ∙ omega (arith, count_more bit base m bits v)

-- from the first
pub count_sum : (bit : ℕ → ℕ → ℕ) (m : ℕ) (bits : List ℕ) (v : ℕ) → count_in bit m bits v ≡ sum_to (λ l. same (bin_of (bit l) bits) v) m
unfolding sum_to count_in
count_sum bit zero bits v = refl
count_sum bit (suc m) bits v = ap (λ (x : ℕ). x + same (bin_of (bit m) bits) v) (count_sum bit m bits v)

-- no bin has more blocks than there are
pub count_le : (bit : ℕ → ℕ → ℕ) (n : ℕ) (bits : List ℕ) (v : ℕ) → count_in bit n bits v ≤ n
unfolding count_in
count_le bit zero bits v = zero-le
count_le bit (suc n) bits v = omega (arith, count_le bit n bits v, same_le (bin_of (bit n) bits) v)

-- ---- lists of counts

list_ext : (m : ℕ) (f g : ℕ → ℕ) → ((v : ℕ) → f v ≡ g v) → list_of m f ≡ list_of m g
unfolding list_of
list_ext zero f g h = refl
list_ext (suc m) f g h = λ i. list_ext m f g h i ++ (h m i ∷ [])

pub length_list : (m : ℕ) (f : ℕ → ℕ) → length (list_of m f) ≡ m
unfolding list_of
length_list zero f = refl
length_list (suc m) f = length-append (list_of m f) (f m ∷ []) ∙ omega (arith, length_list m f)

pub get_d_list : (m : ℕ) (f : ℕ → ℕ) (v : ℕ) → v < m → get_or (list_of m f) v 0 ≡ f v
unfolding list_of
get_d_list zero f v h = absurd (omega arith)
get_d_list (suc m) f v h = by_last (ℕ_discrete v m) (get_d_list m f v)
  where
    by_last : Dec (v ≡ m) → (v < m → get_or (list_of m f) v 0 ≡ f v) → get_or (list_of m f ++ (f m ∷ [])) v 0 ≡ f v
    by_last (yes e) before =
        ap (λ (i : ℕ). get_or (list_of m f ++ (f m ∷ [])) i 0) (e ∙ sym (length_list m f)) ∙ get_or-append_seam (list_of m f) (f m) [] 0 ∙ ap f (sym e)
    by_last (no ne) before =
        let below : v < m = omega arith in
        let inside : v < length (list_of m f) = rw length_list below in
        get_or-append (list_of m f) (f m ∷ []) 0 v inside ∙ before below

-- bins that hold every count
pub counts_are : (bit : ℕ → ℕ → ℕ) (n : ℕ) (bits bins : List ℕ) → length bins ≡ 2 ^ length bits
    → ((v : ℕ) → v < length bins → get_or bins v 0 ≡ count_in bit n bits v) → bins ≡ counts_of bit n bits
unfolding counts_of
counts_are bit n bits bins size held =
    ext_get_or 0 bins (list_of (2 ^ length bits) (count_in bit n bits)) (size ∙ sym (length_list (2 ^ length bits) (count_in bit n bits)))
    (λ v h. held v h ∙ sym (get_d_list (2 ^ length bits) (count_in bit n bits) v (omega arith)))

pub total_append : (s t : List ℕ) → total (s ++ t) ≡ total s + total t
unfolding total
total_append [] t = omega arith
total_append (a ∷ s) t = rw (total_append s t) (omega arith)

total_list : (m : ℕ) (f : ℕ → ℕ) → total (list_of m f) ≡ sum_to f m
unfolding list_of sum_to total
total_list zero f = refl
total_list (suc m) f = total_append (list_of m f) (f m ∷ []) ∙ omega (arith, total_list m f)

-- ---- theorem 3

pub count_agree : (n B : ℕ) (bit bit' : ℕ → ℕ → ℕ) → AgreeBelow n B bit bit' → (bits : List ℕ) → Below B bits
    → (v : ℕ) → count_in bit n bits v ≡ count_in bit' n bits v
unfolding count_in
count_agree zero B bit bit' agree bits below v = refl
count_agree (suc n) B bit bit' agree bits below v =
    λ i.
    count_agree n B bit bit' (λ e b le lb. agree e b (omega arith) lb) bits below v i
    + same (bin_ext (bit n) (bit' n) bits (λ j l. agree n (get_or bits j 0) (omega arith) (below j l)) i) v

pub same_counts : SameCounts
unfolding counts_of
same_counts n B bit bit' agree bits below =
    list_ext (2 ^ length bits) (count_in bit n bits) (count_in bit' n bits) (count_agree n B bit bit' agree bits below)

pub count_total : (n : ℕ) (bit : ℕ → ℕ → ℕ) → Bits bit → (bits : List ℕ) → sum_to (count_in bit n bits) (2 ^ length bits) ≡ n
unfolding count_in
count_total zero bit h bits = sum_zero (2 ^ length bits)
count_total (suc n) bit h bits =
    let one : sum_to (same (bin_of (bit n) bits)) (2 ^ length bits) ≡ 1 =
    sum_same (bin_of (bit n) bits) (2 ^ length bits) ∙ rw (lt-ltb _ _ (bin_lt (bit n) (h n) bits)) in
    sum_add (count_in bit n bits) (same (bin_of (bit n) bits)) (2 ^ length bits) ∙ omega (arith, one, count_total n bit h bits)

pub counts_add_up : CountsAddUp
unfolding counts_of
counts_add_up n bit h bits = total_list (2 ^ length bits) (count_in bit n bits) ∙ count_total n bit h bits
