-- One pass over the subsets: what it needs of its arguments, and what it leaves.
use Rattle.std.specs.Prelude.{ℕ, ◌^◌, ◌≤◌, ◌<◌, ◌≡◌, false, List, [], ◌++◌, length, drop, Option, Some, None}
use Rattle.std.specs.Option.{ForSome}
use Rattle.counting.specs.Sample.{counts_of}
use Rattle.counting.specs.Stretch.{StretchIn}
use Rattle.counting.specs.declared.stretch.Stretch.{Stretch}
use Rattle.layers.specs.declared.bins.Layered.{Layered}
use Rattle.layers.specs.Gather.{Tops}
use Rattle.layers.specs.Run.{Shared, Run}
use Rattle.layers.specs.Store.{Holds}
use Rattle.ranking.specs.Order.{order_of}
use Rattle.searching.specs.Finding.{winner_of, finding_of}
use Rattle.searching.specs.declared.finding.Finding.{Finding}

-- a block and a width within their limits, and the stretch in the words
pub record Searchable (words : ℕ) (x : Stretch) (k : ℕ) : Type 0 where
  pub some : 1 ≤ k
  pub width : k ≤ 20
  pub chosen : k ≤ x.block_size
  pub size : x.block_size ≤ 4096
  pub rows : StretchIn x words

-- both buffers have room for 2 ^ k entries
abbrev pub BufferRoom : ℕ → List ℕ → List ℕ → Type 0
BufferRoom k bins order = (2 ^ k ≤ length bins) × (2 ^ k ≤ length order)

-- the store that a candidate's bins are worked out from: none, where every bin is counted, or one that holds the counts of the smaller subsets
pub record FromStore (bit : ℕ → ℕ → ℕ) (n B k : ℕ) (store : List ℕ) : Type 0 where
  pub holds : 0 < length store → Holds bit n B k store

-- a search by layers goes over this sample
pub record Over (words : List ℕ) (x : Stretch) (k : ℕ) (layered : Layered) : Type 0 where
  pub same_words : layered.words.now ≡ words
  pub same_stretch : layered.stretch ≡ x
  pub same_width : layered.k ≡ k

abbrev pub IfOver : List ℕ → Stretch → ℕ → Option Layered → Type 0
IfOver words x k layered = ForSome layered (Over words x k)

-- the store that it has; none where every bin is counted
abbrev pub store_in : Option Layered → List ℕ
store_in None = []
store_in (Some layered) = layered.store.now

-- where a store is lent, there is room for the numbers of a run, and in them the places in the store
abbrev pub Space : ℕ → ℕ → List ℕ → List ℕ → Type 0
Space B k store run = 0 < length store → Tops B k run

-- and the run of a candidate stands in them
abbrev pub Standing : (ℕ → ℕ → ℕ) → ℕ → ℕ → List ℕ → List ℕ → List ℕ → Type 0
Standing bit n B store bits run = 0 < length store → Run bit n B bits run

-- a candidate can be ranked: its run stands, and the bins that it shares with the others of the run
pub record Ready (bit : ℕ → ℕ → ℕ) (n B : ℕ) (store bits run bins : List ℕ) : Type 0 where
  pub stands : Standing bit n B store bits run
  pub shared : 0 < length store → Shared bit n bits bins

-- past the first 2 ^ k entries both buffers are as before
abbrev pub PastSame : ℕ → List ℕ → List ℕ → List ℕ → List ℕ → Type 0
PastSame k bins order bins' order' = (drop (2 ^ k) bins' ≡ drop (2 ^ k) bins) × (drop (2 ^ k) order' ≡ drop (2 ^ k) order)

-- What a pass over n blocks leaves: the winner as the finding, high bit first, its counts and bin order first in the buffers, and past them what was there.
pub record Won (bit : ℕ → ℕ → ℕ) (n B k : ℕ) (bins order : List ℕ) (r : Finding) (bins' order' : List ℕ) : Type 0 where
  pub found : r ≡ finding_of false bit n B (winner_of bit n B k)
  pub counted : bins' ≡ counts_of bit n (winner_of bit n B k) ++ drop (2 ^ k) bins
  pub ordered : order' ≡ order_of (counts_of bit n (winner_of bit n B k)) ++ drop (2 ^ k) order
