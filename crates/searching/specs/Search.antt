-- What a search promises: its answer, and every entry of the lent buffers afterwards.
use Rattle.std.specs.Prelude.{◌≡◌, ℕ, zero, suc, ◌^◌, Bool, true, false, List, ◌++◌, length, drop}
use Rattle.counting.specs.Sample.{counts_of}
use Rattle.counting.specs.Stretch.{stretch_bit, span}
use Rattle.sampling.specs.Stretch.{stretch_of}
use Rattle.sampling.specs.declared.sampler.Head.{Head}
use Rattle.ranking.specs.Order.{order_of}
use Rattle.searching.specs.Finding.{Searched, winner_of, finding_of, refused_with}
use Rattle.layers.specs.Store.{store_of, store_size, store_suffices}
use Rattle.searching.specs.Refusal.{bottomup_refusal}

-- the winner of n blocks in a bit order, or the refusal r where that is not 0
abbrev pub answer_of : ℕ → Bool → (ℕ → ℕ → ℕ) → ℕ → ℕ → ℕ → Searched
answer_of zero low bit n B k = record { refusal = 0; finding = finding_of low bit n B (winner_of bit n B k) }
answer_of (suc r) low bit n B k = refused_with (suc r)

-- the bin buffer afterwards: the winner's counts, and past them as lent; all as lent where refused
abbrev pub bins_after : ℕ → (ℕ → ℕ → ℕ) → ℕ → ℕ → ℕ → List ℕ → List ℕ
bins_after zero bit n B k bins = counts_of bit n (winner_of bit n B k) ++ drop (2 ^ k) bins
bins_after (suc r) bit n B k bins = bins

-- the order buffer afterwards: the winner's bin order, and past it as lent; all as lent where refused
abbrev pub order_after : ℕ → (ℕ → ℕ → ℕ) → ℕ → ℕ → ℕ → List ℕ → List ℕ
order_after zero bit n B k order = order_of (counts_of bit n (winner_of bit n B k)) ++ drop (2 ^ k) order
order_after (suc r) bit n B k order = order

-- A search of n blocks with the refusal r: its answer and the two buffers afterwards, for the bit order, the sample, the block size, the width and the buffers as lent.
pub record Search (r : ℕ) (low : Bool) (bit : ℕ → ℕ → ℕ) (n B k : ℕ) (bins order : List ℕ) (answer : Searched) (bins' order' : List ℕ) : Type 0 where
  pub answered : answer ≡ answer_of r low bit n B k
  pub counted : bins' ≡ bins_after r bit n B k bins
  pub ordered : order' ≡ order_after r bit n B k order

-- A search of the sampler's blocks from `first` to before `end`.
abbrev pub StretchSearch : ℕ → Head → List ℕ → ℕ → ℕ → ℕ → List ℕ → List ℕ → Searched → List ℕ → List ℕ → Type 0
StretchSearch r s ws first end k =
    let x = stretch_of s (length ws) first end in
    Search r s.low_first (stretch_bit x ws) (span x) s.block_size k

-- the store afterwards, where it suffices: the all-set counts of the smaller subsets, and past them as lent; all as lent where it does not, and where refused
abbrev pub store_after : ℕ → Bool → (ℕ → ℕ → ℕ) → ℕ → ℕ → ℕ → List ℕ → List ℕ
store_after zero true bit n B k store = store_of bit n B k ++ drop (store_size B k) store
store_after zero false bit n B k store = store
store_after (suc r) suffices bit n B k store = store

-- What `bottomup` promises: the store decides over itself alone, and nothing else goes by it.
pub record BottomupSearch (s : Head) (ws : List ℕ) (first end k : ℕ) (store bins order : List ℕ) (answer : Searched) (store' bins' order' : List ℕ) : Type 0 where
  pub search :
      StretchSearch (bottomup_refusal s (length ws) first end k (length bins) (length order)) s ws first end k bins order answer bins' order'
  pub stored :
      let x = stretch_of s (length ws) first end in
      store'
      ≡ store_after (bottomup_refusal s (length ws) first end k (length bins) (length order)) (store_suffices s.block_size k (length store))
      (stretch_bit x ws) (span x) s.block_size k store
