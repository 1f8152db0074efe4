-- What a search answers does not go by the store (theorem `any_store`); the store itself goes by `store_needed` (`store_needed_is`).
use mathlib.Core.Path.{◌≡◌, refl, sym, ◌∙◌}
use mathlib.Core.Bool.{true, false, ◌&&◌}
use mathlib.Core.Logic.{◌⊎◌, inl, inr}
use Prim.Native.Nat.{ℕ, zero, suc, ◌<◌}
use native.Mathlib.Omega.{arith}
use lib.Dec.{leb}
use lib.ListN.{length}
use borrow.Author.Tests.{le-leb, lt-leb}
use Rattle.sampling.specs.declared.sampler.Head.{Head}
use Rattle.layers.specs.Store.{store_suffices, store_needed}
use Rattle.layers.proofs.Sizing.{some_needed, needed_suffices}
use Rattle.subsets.proofs.Refusing.{valid_width_is}
use Rattle.searching.specs.Refusal.{bottomup_refusal}
use Rattle.searching.specs.AnyStore.{AnyStore, StoreNeeded}
use Rattle.searching.proofs.Refusing.{SearchFree, bottomup_free, said_is}

pub any_store : AnyStore
any_store s ws first end k bins order store r store' bins' order' S store₂ r₂ store₂' bins₂' order₂' S₂ = (
  S.search.answered ∙ sym S₂.search.answered,
  S.search.counted ∙ sym S₂.search.counted,
  S.search.ordered ∙ sym S₂.search.ordered,
)

-- ---- the store

-- as a search that is not refused decides
decided : (s : Head) (words first end k a : ℕ) → SearchFree s words first end k
    → let need = store_needed s.block_size k in store_suffices s.block_size k a ≡ (leb 1 need && leb need a)
decided s words first end k a f =
    needed_suffices s.block_size k a f.usable.valid (valid_width_is k f.width.some f.width.width) f.width.chosen

too_few : (need a : ℕ) → (need ≡ 0) ⊎ (a < need) → (leb 1 need && leb need a) ≡ false
too_few need a (inl e) = rw e refl
too_few zero a (inr h) = refl
too_few (suc m) a (inr h) = simp (le-leb 1 (suc m) (omega arith), lt-leb _ _ h)

pub store_needed_is : StoreNeeded
store_needed_is s ws first end k store bins order r store' bins' order' S z =
    let q = bottomup_refusal s (length ws) first end k (length bins) (length order) in
    let none : q ≡ 0 = sym (said_is q _ _ _ _ k r S.search.answered) ∙ z in
    let free = (bottomup_free s (length ws) first end k (length bins) (length order) none).search in
    let is = decided s (length ws) first end k (length store) free in
    record {
      filled = λ some room.
          let enough : store_suffices s.block_size k (length store) ≡ true = is ∙ simp (le-leb _ _ some, le-leb _ _ room) in
          S.stored ∙ simp (none, enough, some_needed s.block_size k some);
      lent = λ few. S.stored ∙ simp (none, is ∙ too_few (store_needed s.block_size k) (length store) few);
    }
