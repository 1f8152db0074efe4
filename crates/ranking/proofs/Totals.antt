-- Sums of counts: in bin order they are the same counts, and the sum of the first of them grows one count at a time. Assumes nothing.
use mathlib.Core.Path.{◌≡◌, refl, sym, ap, ap₂, ◌∙◌, subst}
use Prim.Native.Nat.{ℕ, zero, suc, ◌+◌, ◌≤◌, ◌<◌}
use native.Mathlib.Nat.{not-suc-le-zero, le_of_suc-le-suc, add_left_comm, add-zero}
use native.Mathlib.Omega.{arith}
use mathlib.Core.List.Permᴰ
use mathlib.Core.List.{List, [], ◌∷◌, ◌++◌, map}
use lib.ListN.{length, get_or, take, drop, take-append-drop, length-map}
use lib.Seq.{take-suc, take-length}
use Rattle.counting.specs.Sample.{list_of, total}
use Rattle.ranking.specs.Order.{order_of, Permuted, BinsBelow}
use Rattle.ranking.specs.Ranking.{in_bin_order}
use Rattle.counting.proofs.Counts.{total_append, length_list}
use Rattle.ranking.proofs.Permuting.{permuted_length, permuted_below}
use Rattle.ranking.proofs.Sorting.{list_below, order_permutes}

pub total_more : (l : List ℕ) (i : ℕ) → i < length l → total (take (suc i) l) ≡ total (take i l) + get_or l i 0
unfolding total
total_more l i h = ap total (take-suc l i 0 h) ∙ total_append (take i l) (get_or l i 0 ∷ []) ∙ ap (λ (x : ℕ). total (take i l) + x) (add-zero (get_or l i 0))

pub total_first : (l : List ℕ) (i : ℕ) → total (take i l) ≤ total l
total_first l i = let e : total (take i l) + total (drop i l) ≡ total l = sym (total_append (take i l) (drop i l)) ∙ ap total (take-append-drop i l) in omega arith

pub total_permuted : (f : ℕ → ℕ) {s t : List ℕ} → Permuted s t → total (map f s) ≡ total (map f t)
unfolding total
total_permuted f Permᴰ.nil = refl
total_permuted f (Permᴰ.cons e p) = ap₂ ◌+◌ (ap f e) (total_permuted f p)
total_permuted f (Permᴰ.swap {a} {b} {a'} {b'} {l} e g) =
    add_left_comm (f a) (f b) (total (map f l)) ∙ ap₂ (λ (x y : ℕ). x + (y + total (map f l))) (ap f g) (ap f e)
total_permuted f (Permᴰ.trans p q) = total_permuted f p ∙ total_permuted f q

map_append : (f : ℕ → ℕ) (s t : List ℕ) → map f (s ++ t) ≡ map f s ++ map f t
map_append f [] t = refl
map_append f (a ∷ s) t = ap (λ (l : List ℕ). f a ∷ l) (map_append f s t)

-- the counts of the bins in rising order
pub listed : (l : List ℕ) (i : ℕ) → i ≤ length l → map (λ v. get_or l v 0) (list_of i (λ v. v)) ≡ take i l
unfolding list_of
listed l zero h = refl
listed l (suc i) h =
    map_append (λ v. get_or l v 0) (list_of i (λ v. v)) (i ∷ [])
    ∙ ap (λ (s : List ℕ). s ++ get_or l i 0 ∷ []) (listed l i (omega arith)) ∙ sym (take-suc l i 0 h)

pub order_length : (counts : List ℕ) → length (order_of counts) ≡ length counts
order_length counts = sym (permuted_length (order_permutes counts)) ∙ length_list (length counts) (λ v. v)

in_order_length : (counts : List ℕ) → length (in_bin_order counts) ≡ length counts
unfolding in_bin_order
in_order_length counts = length-map (order_of counts) (λ v. get_or counts v 0) ∙ order_length counts

pub map_at : (f : ℕ → ℕ) (l : List ℕ) (i : ℕ) → i < length l → get_or (map f l) i 0 ≡ f (get_or l i 0)
map_at f [] i h = absurd (not-suc-le-zero h)
map_at f (a ∷ l) zero h = refl
map_at f (a ∷ l) (suc i) h = map_at f l i (le_of_suc-le-suc h)

in_order_at : (counts : List ℕ) (i : ℕ) → i < length counts → get_or (in_bin_order counts) i 0 ≡ get_or counts (get_or (order_of counts) i 0) 0
unfolding in_bin_order
in_order_at counts i h = map_at (λ v. get_or counts v 0) (order_of counts) i (subst (λ (m : ℕ). i < m) (sym (order_length counts)) h)

in_order_total : (counts : List ℕ) → total (in_bin_order counts) ≡ total counts
unfolding in_bin_order
in_order_total counts =
    sym (total_permuted (λ v. get_or counts v 0) (order_permutes counts)) ∙ ap total (listed counts (length counts) (omega arith) ∙ take-length counts)

-- the bin order lists bins
pub order_below : (counts : List ℕ) → BinsBelow (length counts) (order_of counts)
order_below counts = permuted_below (length counts) (order_permutes counts) (list_below (length counts))

-- one more division takes the count at the next place of the order
pub sum_more : (counts : List ℕ) (i : ℕ) → i < length counts → total (take i (in_bin_order counts)) + get_or counts (get_or (order_of counts) i 0) 0 ≡ total (take (suc i) (in_bin_order counts))
sum_more counts i h =
    ap (λ (x : ℕ). total (take i (in_bin_order counts)) + x) (sym (in_order_at counts i h))
    ∙ sym (total_more (in_bin_order counts) i (subst (λ (m : ℕ). i < m) (sym (in_order_length counts)) h))

-- and the sums stay below the sum of all counts
pub sum_most : (counts : List ℕ) (i : ℕ) → total (take i (in_bin_order counts)) ≤ total counts
sum_most counts i = omega (arith, total_first (in_bin_order counts) i, in_order_total counts)
