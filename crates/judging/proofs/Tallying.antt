-- Counting block by block, and the sum of the first counts of an order.
use mathlib.Core.Path.{◌≡◌, refl, sym, ap, ◌∙◌}
use Prim.Native.Nat.{ℕ, suc, ◌+◌, ◌-◌, ◌*◌, ◌/◌, ◌^◌, ◌≤◌, ◌<◌}
use native.Mathlib.Decide.{ℕ_discrete}
use native.Mathlib.Nat.{div-mul-le_self, mul-le-mul_right}
use native.Mathlib.Numerals.{add-one}
use native.Mathlib.Omega.{arith}
use mathlib.Core.Bool.{Bool}
use mathlib.Core.List.{List, map}
use lib.ListN.{length, get_or, set, take, drop, replicate, length-set, length-take, length-drop, length-replicate, get_or-replicate, length-map}
use lib.Seq.{ext_get_or, get_or-set_same, get_or-set_other, take-length}
use Rattle.counting.specs.Block.{block_bit, bin_of}
use Rattle.counting.specs.Recording.{block_bytes, recorded_bit}
use Rattle.counting.specs.Sample.{count_in, counts_of, total}
use Rattle.counting.proofs.Counts.{same_eq, same_ne, count_le, get_d_list}
use Rattle.searching.proofs.Filled.{length_counts}
use Rattle.ranking.proofs.Permuting.{permuted_below, below_at}
use Rattle.ranking.proofs.Sorting.{list_below}
use Rattle.ranking.proofs.Totals.{total_more, total_first, total_permuted, listed, map_at}
use Rattle.judging.specs.Permutation.{Permutation}
use Rattle.judging.specs.Evaluation.{positive_of}

-- ---- one more block

get_d_counts : (bit : ℕ → ℕ → ℕ) (n : ℕ) (bits : List ℕ) (v : ℕ) → v < 2 ^ length bits → get_or (counts_of bit n bits) v 0 ≡ count_in bit n bits v
unfolding counts_of
get_d_counts bit n bits v h = get_d_list (2 ^ length bits) (count_in bit n bits) v h

pub counts_none : (bit : ℕ → ℕ → ℕ) (bits : List ℕ) → replicate (2 ^ length bits) 0 ≡ counts_of bit 0 bits
unfolding count_in
counts_none bit bits =
    ext_get_or 0 (replicate (2 ^ length bits) 0) (counts_of bit 0 bits) (long ∙ sym (length_counts bit 0 bits))
    (λ v h. let below : v < 2 ^ length bits = omega (arith, long) in get_or-replicate (2 ^ length bits) v 0 0 below ∙ sym (get_d_counts bit 0 bits v below))
  where
    long : length (replicate {A = ℕ} (2 ^ length bits) 0) ≡ 2 ^ length bits
    long = length-replicate {A = ℕ} (2 ^ length bits) 0

-- the block's bin has one more
pub counts_more : (bit : ℕ → ℕ → ℕ) (n : ℕ) (bits bins : List ℕ) (v x : ℕ) → bins ≡ counts_of bit n bits → v ≡ bin_of (bit n) bits → v < 2 ^ length bits → x ≡ get_or bins v 0
    → set bins v (x + 1) ≡ counts_of bit (n + 1) bits
unfolding count_in
counts_more bit n bits bins v x is bin h reads =
    ext_get_or 0 (set bins v (x + 1)) (counts_of bit (suc n) bits) (simp length-set (size ∙ sym (length_counts bit (suc n) bits)))
    (λ w l. at w (let h : w < length bins = simp length-set at l in omega (arith, size)) (ℕ_discrete w v))
    ∙ ap (λ (j : ℕ). counts_of bit j bits) (sym (add-one n))
  where
    size : length bins ≡ 2 ^ length bits
    size = ap length is ∙ length_counts bit n bits

    had : (w : ℕ) → w < 2 ^ length bits → get_or bins w 0 ≡ count_in bit n bits w
    had w l = ap (λ (s : List ℕ). get_or s w 0) is ∙ get_d_counts bit n bits w l

    at : (w : ℕ) → w < 2 ^ length bits → Dec (w ≡ v) → get_or (set bins v (x + 1)) w 0 ≡ get_or (counts_of bit (suc n) bits) w 0
    at w l (yes e) =
        ap (λ (j : ℕ). get_or (set bins v (x + 1)) j 0) e ∙ get_or-set_same bins v (x + 1) 0 (omega (arith, size))
        ∙ omega (arith, reads, had v h, ap (count_in bit n bits) e, same_eq (bin_of (bit n) bits) w (sym bin ∙ sym e)) ∙ sym (get_d_counts bit (suc n) bits w l)
    at w l (no ne) =
        get_or-set_other bins v w (x + 1) 0 ne ∙ omega (arith, had w l, same_ne (bin_of (bit n) bits) w (λ z. ne (sym z ∙ sym bin))) ∙ sym (get_d_counts bit (suc n) bits w l)

-- no bin has more than the blocks counted
pub counts_small : (bit : ℕ → ℕ → ℕ) (n : ℕ) (bits bins : List ℕ) (v : ℕ) → bins ≡ counts_of bit n bits → v < 2 ^ length bits → get_or bins v 0 ≤ n
counts_small bit n bits bins v is h = omega (arith, ap (λ (s : List ℕ). get_or s v 0) is, get_d_counts bit n bits v h, count_le bit n bits v)

-- ---- a block of the data

-- a whole block ends within the data
pub block_end : (e size long : ℕ) → e < long / size → e * size + size ≤ long
block_end e size long h =
    let next : suc e * size ≤ long / size * size = mul-le-mul_right size h in
    omega (arith, next, div-mul-le_self long size)

-- the bytes of block e as the code takes them
abbrev pub block_at : ℕ → ℕ → List ℕ → List ℕ
block_at size e bytes = take ((e + 1) * size - e * size) (drop (e * size) bytes)

pub block_length : (size e : ℕ) (bytes : List ℕ) → e < length bytes / size → length (block_at size e bytes) ≡ size
block_length size e bytes h = simp (length-take, length-drop) (omega (arith, block_end e size (length bytes) h))

-- have the bin of the recording's block e
pub block_bin : (B : ℕ) (low : Bool) (e : ℕ) (bits bytes : List ℕ) → bin_of (block_bit low (block_at (block_bytes B) e bytes)) bits ≡ bin_of (recorded_bit B low bytes e) bits
unfolding recorded_bit
block_bin B low e bits bytes =
    let size : (e + 1) * block_bytes B - e * block_bytes B ≡ block_bytes B = omega arith in
    ap (λ (m : ℕ). bin_of (block_bit low (take m (drop (e * block_bytes B) bytes))) bits) size

-- ---- the sum of the first counts

pub positive_none : (counts order : List ℕ) → positive_of counts order 0 ≡ 0
unfolding positive_of total
positive_none counts order = refl

pub positive_more : (counts order : List ℕ) (i : ℕ) → i < length order → positive_of counts order i + get_or counts (get_or order i 0) 0 ≡ positive_of counts order (i + 1)
unfolding positive_of
positive_more counts order i h =
    let f : ℕ → ℕ = λ v. get_or counts v 0 in
    let inside : i < length (map f order) = rw length-map h in
    rw add-one (ap (λ (x : ℕ). total (take i (map f order)) + x) (sym (map_at f order i h)) ∙ sym (total_more (map f order) i inside))

pub positive_most : (counts order : List ℕ) (i : ℕ) → Permutation (length counts) order → positive_of counts order i ≤ total counts
unfolding positive_of
positive_most counts order i p =
    let f : ℕ → ℕ = λ v. get_or counts v 0 in
    let all : total (map f order) ≡ total counts =
    sym (total_permuted f p) ∙ ap total (listed counts (length counts) (omega arith) ∙ take-length counts) in
    omega (arith, total_first (map f order) i)

pub bin_below : (m : ℕ) (order : List ℕ) (i : ℕ) → Permutation m order → i < length order → get_or order i 0 < m
bin_below m order i p h = below_at m order i (permuted_below m p (list_below m)) h
