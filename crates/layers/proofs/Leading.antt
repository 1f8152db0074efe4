-- The bits before the last, one after the other: a prefix of a subset, its tables, and the bins of no bit.
use mathlib.Core.Path.{◌≡◌, refl, sym, ap, subst, ◌∙◌}
use Prim.Native.Nat.{ℕ, zero, suc, ◌+◌, ◌-◌, ◌^◌, ◌≤◌, ◌<◌}
use native.Mathlib.Omega.{arith}
use mathlib.Core.List.{List, [], ◌∷◌, ◌++◌}
use lib.ListN.{length, get_or, take, drop, get_or-append}
use lib.Seq.{length-take-le, take-suc, take-length, get_or-take, drop-drop, drop_at}
use Rattle.counting.specs.Block.{bin_of}
use Rattle.counting.specs.Sample.{count_in, all_set, counts_of}
use Rattle.counting.proofs.Counts.{length_list, get_d_list}
use Rattle.subsets.specs.Subsets.{Rising, Subset}
use Rattle.subsets.specs.Choose.{choose}
use Rattle.subsets.proofs.Carrying.{snoc}
use Rattle.subsets.proofs.Listing.{bits_below}
use Rattle.layers.specs.Store.{Holds}
use Rattle.layers.specs.Gather.{Tables}
use Rattle.layers.specs.Run.{last_bit, leading, Run}

rising_take : (lo hi m : ℕ) (s : List ℕ) → Rising lo hi s → Rising lo hi (take m s)
rising_take lo hi zero s r = tt
rising_take lo hi (suc m) [] r = tt
rising_take lo hi (suc m) (a ∷ s) r = (r.0, r.1, rising_take (suc a) hi m s r.2)

-- a subset of k bits is one of as many as it has, and the store holds its counts
pub as_many : (B k : ℕ) (s : List ℕ) → Subset B k s → Subset B (length s) s
as_many B k s g = record { size = refl; rising = g.rising }

pub held : (bit : ℕ → ℕ → ℕ) (n B k : ℕ) (s store : List ℕ) → Subset B k s → Holds bit n B k store → Holds bit n B (length s) store
held bit n B k s store g h = subst (λ (m : ℕ). Holds bit n B m store) (sym g.size) h

-- the first m bits of a subset are one
pub subset_take : (B m : ℕ) (s : List ℕ) → m ≤ length s → Subset B (length s) s → Subset B m (take m s)
subset_take B m s h g = record { size = length-take-le m s h; rising = rising_take 0 B m s g.rising }

-- and their tables are those of all
pub tables_take : (B k m : ℕ) (bits run : List ℕ) → m ≤ length bits → Tables B k bits run → Tables B k (take m bits) run
tables_take B k m bits run h t = record {
  tops = t.tops;
  ways = λ i r pos le l.
      let size : length (take m bits) ≡ m = length-take-le m bits h in
      let within : i + r ≤ length bits = omega arith in
      t.ways i r pos le within ∙ ap (λ (a : ℕ). choose (B - 1 - a) r) (sym (get_or-take m bits i 0 (omega arith)));
}

-- every block is in the one bin of no bit
pub none_counted : (bit : ℕ → ℕ → ℕ) (n : ℕ) → n ≡ count_in bit n [] 0
unfolding count_in bin_of
none_counted bit zero = refl
none_counted bit (suc n) = omega (arith, none_counted bit n)

-- bins that begin with the counts of some bits
pub counts_at : (bit : ℕ → ℕ → ℕ) (n : ℕ) (bits rest : List ℕ) (v : ℕ) → v < 2 ^ length bits → get_or (counts_of bit n bits ++ rest) v 0 ≡ count_in bit n bits v
unfolding counts_of
counts_at bit n bits rest v h =
    get_or-append (counts_of bit n bits) rest 0 v (omega (arith, length_list (2 ^ length bits) (count_in bit n bits))) ∙ get_d_list (2 ^ length bits) (count_in bit n bits) v h

-- and are past them, and past more, as they were
pub counts_past : (bit : ℕ → ℕ → ℕ) (n : ℕ) (bits b : List ℕ) (m : ℕ) → 2 ^ length bits ≤ m → drop m (counts_of bit n bits ++ drop (2 ^ length bits) b) ≡ drop m b
unfolding counts_of
counts_past bit n bits b m h =
    let p : ℕ = 2 ^ length bits in
    let e : p + (m - p) ≡ m = omega arith in
    ap (λ (x : ℕ). drop x (counts_of bit n bits ++ drop p b)) (sym e) ∙ sym (drop-drop (m - p) p (counts_of bit n bits ++ drop p b))
    ∙ ap (drop (m - p)) (drop_at (counts_of bit n bits) (drop p b) p (length_list p (count_in bit n bits))) ∙ drop-drop (m - p) p b ∙ ap (λ (x : ℕ). drop x b) e

-- the last bit and those before it are the bits, so the count of a run at its last bit is their own
rejoined : (bits : List ℕ) → 1 ≤ length bits → snoc (leading bits) (last_bit bits) ≡ bits
rejoined bits h =
    let e : suc (length bits - 1) ≡ length bits = omega arith in
    sym (take-suc bits (length bits - 1) 0 (omega arith)) ∙ ap (λ (k : ℕ). take k bits) e ∙ take-length bits

pub own_count : (bit : ℕ → ℕ → ℕ) (n B : ℕ) (bits run : List ℕ) → 1 ≤ length bits → Subset B (length bits) bits → Run bit n B bits run
    → get_or run (441 + last_bit bits) 0 ≡ all_set bit n bits
own_count bit n B bits run h s r =
    r.counted (last_bit bits) (omega arith) (bits_below B (length bits) bits s (length bits - 1) (omega arith)) ∙ ap (all_set bit n) (rejoined bits h)
