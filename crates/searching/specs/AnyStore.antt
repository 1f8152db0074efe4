-- The store that a search is lent changes its way and its time, and nothing that it answers.
use Rattle.std.specs.Prelude.{◌≡◌, ◌⊎◌, List, ◌++◌, ℕ, ◌≤◌, ◌<◌, length, drop}
use Rattle.counting.specs.Stretch.{stretch_bit, span}
use Rattle.sampling.specs.Stretch.{stretch_of}
use Rattle.sampling.specs.declared.sampler.Head.{Head}
use Rattle.layers.specs.Store.{store_of, store_needed}
use Rattle.searching.specs.Search.{BottomupSearch}
use Rattle.searching.specs.Finding.{Searched}

-- Theorem: two searches that differ in the store alone, its length or its entries, answer the same and leave the same counts and order, refused or not.
abbrev pub AnyStore : Type 0
AnyStore =
    (s : Head) (ws : List ℕ) (first end k : ℕ) (bins order : List ℕ)
    → (store : List ℕ) (r : Searched) (store' bins' order' : List ℕ) → BottomupSearch s ws first end k store bins order r store' bins' order'
    → (store₂ : List ℕ) (r₂ : Searched) (store₂' bins₂' order₂' : List ℕ) → BottomupSearch s ws first end k store₂ bins order r₂ store₂' bins₂' order₂'
    → (r ≡ r₂) × (bins' ≡ bins₂') × (order' ≡ order₂')

-- What `store_needed` tells of a search that is not refused: it fills a store of as many entries or more, where these are not 0, and leaves any other as lent.
pub record Needed (s : Head) (ws : List ℕ) (first end k : ℕ) (store store' : List ℕ) : Type 0 where
  pub filled :
      let x = stretch_of s (length ws) first end in
      let need = store_needed s.block_size k in
      1 ≤ need → need ≤ length store → store' ≡ store_of (stretch_bit x ws) (span x) s.block_size k ++ drop need store
  pub lent : (store_needed s.block_size k ≡ 0) ⊎ (length store < store_needed s.block_size k) → store' ≡ store

-- Theorem: so for every search.
abbrev pub StoreNeeded : Type 0
StoreNeeded =
    (s : Head) (ws : List ℕ) (first end k : ℕ) (store bins order : List ℕ) (r : Searched) (store' bins' order' : List ℕ)
    → BottomupSearch s ws first end k store bins order r store' bins' order' → r.refusal ≡ 0 → Needed s ws first end k store store'
