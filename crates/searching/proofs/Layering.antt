-- Where a pass works the bins out from a store: it is not empty, and what holds of the sample holds of what the layers go by.
use mathlib.Core.Path.{◌≡◌, sym, ap, subst}
use Prim.Native.Nat.{ℕ, ◌<◌}
use native.Mathlib.Omega.{arith}
use mathlib.Core.List.{List}
use lib.ListN.{length}
use Rattle.std.specs.Prelude.{Option, Some}
use Rattle.counting.specs.Stretch.{span, stretch_bit}
use Rattle.counting.specs.declared.stretch.Stretch.{Stretch}
use Rattle.layers.specs.declared.bins.Layered.{Layered}
use Rattle.layers.specs.Gather.{Tops}
use Rattle.layers.specs.Run.{Shared, Run}
use Rattle.layers.proofs.Running.{store_room}
use Rattle.searching.specs.Pass.{Searchable, IfOver, Over, store_in, Space, Standing, Ready}

module _ (words : List ℕ) (x : Stretch) (k : ℕ) (searchable : Searchable (length words) x k) (o : Option Layered) (over : IfOver words x k o) (layered : Layered) (is : o ≡ Some layered) where
  same : Over words x k layered
  same = over layered is

  lent : 0 < length (store_in o)
  lent =
      let block : layered.stretch.block_size ≡ x.block_size = ap (λ (y : Stretch). y.block_size) same.same_stretch in
      let some : 0 < length layered.store.now = omega (arith, store_room layered.stretch.block_size layered.k, layered.holds.roomy.room, block, searchable.some, searchable.chosen) in
      subst (λ (q : Option Layered). 0 < length (store_in q)) (sym is) some

  -- the places in the store
  pub placed : (bits run : List ℕ) → length bits ≡ k → Space x.block_size k (store_in o) run → Tops layered.stretch.block_size (length bits) run
  placed bits run size s = rw (same.same_stretch, size) (s lent)

  -- the run of a candidate
  pub stood : (bits run : List ℕ) → Standing (stretch_bit x words) (span x) x.block_size (store_in o) bits run
      → Run (stretch_bit layered.stretch layered.words.now) (span layered.stretch) layered.stretch.block_size bits run
  stood bits run s = rw (same.same_stretch, same.same_words) (s lent)

  -- and the bins that it shares
  pub shared : (bits run bins : List ℕ) → Ready (stretch_bit x words) (span x) x.block_size (store_in o) bits run bins
      → Shared (stretch_bit layered.stretch layered.words.now) (span layered.stretch) bits bins
  shared bits run bins r = rw (same.same_stretch, same.same_words) (r.shared lent)
