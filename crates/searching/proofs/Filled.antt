-- Buffers of which the first entries were replaced.
use mathlib.Core.Path.{◌≡◌, ap, ◌∙◌}
use mathlib.Core.List.{List, ◌++◌}
use Prim.Native.Nat.{ℕ, ◌^◌, ◌≤◌}
use native.Mathlib.Omega.{arith}
use lib.ListN.{length, take, drop, length-append, length-drop}
use lib.Seq.{take_at, drop_at}
use Rattle.counting.specs.Sample.{counts_of, count_in}
use Rattle.counting.proofs.Counts.{length_list}
use Rattle.ranking.specs.Order.{order_of}
use Rattle.ranking.proofs.Totals.{order_length}

-- a buffer whose first m entries were replaced has its length, these first, and what was past them
module _ (m : ℕ) (xs l : List ℕ) (size : length xs ≡ m) where
  pub replaced_length : m ≤ length l → length (xs ++ drop m l) ≡ length l
  replaced_length h = simp (length-append, length-drop) (omega arith)

  pub replaced_first : take m (xs ++ drop m l) ≡ xs
  replaced_first = take_at xs (drop m l) m size

  pub replaced_rest : drop m (xs ++ drop m l) ≡ drop m l
  replaced_rest = drop_at xs (drop m l) m size

pub length_counts : (bit : ℕ → ℕ → ℕ) (n : ℕ) (bits : List ℕ) → length (counts_of bit n bits) ≡ 2 ^ length bits
unfolding counts_of
length_counts bit n bits = length_list (2 ^ length bits) (count_in bit n bits)

pub length_order : (bit : ℕ → ℕ → ℕ) (n : ℕ) (bits : List ℕ) → length (order_of (counts_of bit n bits)) ≡ 2 ^ length bits
length_order bit n bits = order_length (counts_of bit n bits) ∙ length_counts bit n bits

-- what a candidate of k bits leaves in a buffer: its counts first, and past the 2 ^ k entries what was there
module _ (bit : ℕ → ℕ → ℕ) (n k : ℕ) (bits l l' : List ℕ) (size : length bits ≡ k) where
  counts_size : length (counts_of bit n bits) ≡ 2 ^ k
  counts_size = length_counts bit n bits ∙ ap (λ (m : ℕ). 2 ^ m) size

  pub counts_first : l' ≡ counts_of bit n bits ++ drop (2 ^ k) l → take (2 ^ k) l' ≡ counts_of bit n bits
  counts_first e = ap (take (2 ^ k)) e ∙ replaced_first (2 ^ k) (counts_of bit n bits) l counts_size

  pub counts_rest : l' ≡ counts_of bit n bits ++ drop (2 ^ k) l → drop (2 ^ k) l' ≡ drop (2 ^ k) l
  counts_rest e = ap (drop (2 ^ k)) e ∙ replaced_rest (2 ^ k) (counts_of bit n bits) l counts_size

  pub order_rest : l' ≡ order_of (counts_of bit n bits) ++ drop (2 ^ k) l → drop (2 ^ k) l' ≡ drop (2 ^ k) l
  order_rest e = ap (drop (2 ^ k)) e ∙ replaced_rest (2 ^ k) (order_of (counts_of bit n bits)) l (order_length (counts_of bit n bits) ∙ counts_size)
