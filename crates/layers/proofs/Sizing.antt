-- The size of the store: the sum over the widths, exact up to 2^32, what a store that suffices has, and how long it must be.
use mathlib.Core.Path.{◌≡◌, refl, ap, ◌∙◌}
use mathlib.Core.Bool.{Bool, true, false, cond, ◌&&◌}
use Prim.Native.Nat.{ℕ, zero, suc, ◌+◌, ◌-◌, ◌^◌, ◌≤◌, ◌<◌}
use native.Mathlib.Omega.{arith}
use native.Mathlib.Numerals.{add-one}
use native.Mathlib.Decide.{ℕ_discrete}
use lib.Dec.{leb}
use borrow.Author.Tests.{leb-true, le-leb, lt-leb}
use Rattle.counting.specs.Block.{valid_size}
use Rattle.counting.proofs.Accepted.{both, valid_facts}
use Rattle.subsets.specs.Bits.{valid_width}
use Rattle.subsets.specs.Subsets.{numbers_from}
use Rattle.subsets.specs.Choose.{choose, up_to, choose_up_to}
use Rattle.subsets.proofs.Ranking.{ranks}
use Rattle.subsets.proofs.Visiting.{numbers_subset}
use Rattle.layers.specs.Store.{size_to, widest, store_size, store_suffices, SufficesRoomy, store_needed, NeededSuffices}

-- ---- from one width to the next

pub size_next : (B d : ℕ) → size_to B (d + 1) ≡ size_to B d + choose B (d + 1)
unfolding size_to
size_next B d = rw add-one

pub size_step : (B d : ℕ) → 1 ≤ d → size_to B d ≡ size_to B (d - 1) + choose B d
size_step B d h =
    let e : d - 1 + 1 ≡ d = omega arith in
    omega (arith, size_next B (d - 1), ap (size_to B) e, ap (choose B) e)

pub size_none : (B : ℕ) → size_to B 0 ≡ 0
unfolding size_to
size_none B = refl

-- more widths, more entries
pub size_grows : (B d m : ℕ) → d ≤ m → size_to B d ≤ size_to B m
unfolding size_to
size_grows B d zero h = let e : d ≡ 0 = omega arith in omega (arith, ap (size_to B) e)
size_grows B d (suc m) h = go (ℕ_discrete d (suc m)) (size_grows B d m)
  where
    go : Dec (d ≡ suc m) → (d ≤ m → size_to B d ≤ size_to B m) → size_to B d ≤ size_to B m + choose B (suc m)
    go (yes e) f = omega (arith, ap (size_to B) e)
    go (no n) f = omega (arith, f (omega arith))

-- a width that a block has has entries
pub size_some : (B d : ℕ) → 1 ≤ d → d ≤ B → 1 ≤ size_to B d
size_some B d pos h =
    omega (arith, size_step B d pos, (ranks B d).below (numbers_from 0 d) (numbers_subset B d h))

-- ---- the sum, as the code has it

-- one width more, exact up to 2^32
pub summed : (B d c s : ℕ) → c ≡ choose_up_to B (d + 1) → up_to s ≡ up_to (size_to B d) → up_to (s + c) ≡ up_to (size_to B (d + 1))
unfolding choose_up_to
summed B d c s e f = omega (arith, size_next B d)

pub small_choose : (B d c : ℕ) → c ≡ choose_up_to B d → c ≤ 4294967297
unfolding choose_up_to
small_choose B d c e = omega arith

-- all widths
pub all_widths : (B k d s : ℕ) → d ≡ widest k → up_to s ≡ up_to (size_to B d) → up_to s ≡ up_to (store_size B k)
all_widths B k d s e f = f ∙ ap (λ (x : ℕ). up_to (size_to B x)) e

-- ---- whether a store suffices, as the code has it

module _ (B k w : ℕ) (is : w ≡ up_to (store_size B k)) where
  large : 2 ^ 32 < w → leb (store_size B k) (2 ^ 32) ≡ false
  large h = lt-leb (store_size B k) (2 ^ 32) (omega arith)

  small : w ≤ 2 ^ 32 → leb (store_size B k) (2 ^ 32) ≡ true
  small h = le-leb (store_size B k) (2 ^ 32) (omega arith)

  exact : w ≤ 2 ^ 32 → w ≡ store_size B k
  exact h = omega arith

  pub too_large : (a : ℕ) → 2 ^ 32 < w → false ≡ store_suffices B k a
  unfolding store_suffices
  too_large a h = simp (large h)

  pub by_length : (a : ℕ) → w ≤ 2 ^ 32 → leb w a ≡ store_suffices B k a
  unfolding store_suffices
  by_length a h = simp (small h, exact h)

  module _ (block : valid_size B ≡ true) (width : valid_width k ≡ true) (chosen : k ≤ B) where
    pub none_needed : 2 ^ 32 < w → 0 ≡ store_needed B k
    unfolding store_needed
    none_needed h = simp (block, width, le-leb k B chosen, large h)

    pub all_needed : w ≤ 2 ^ 32 → w ≡ store_needed B k
    unfolding store_needed
    all_needed h = simp (block, width, le-leb k B chosen, small h, exact h)

-- ---- what a store that suffices has

pub suffices_roomy : (B k a : ℕ) → SufficesRoomy B k a
unfolding store_suffices
suffices_roomy B k a = record {
  roomy = λ e. let p = both (leb (store_size B k) (2 ^ 32)) (leb (store_size B k) a) e in
      record { few = leb-true (store_size B k) (2 ^ 32) p.0; room = leb-true (store_size B k) a p.1 };
  suffices = λ r. simp (le-leb (store_size B k) (2 ^ 32) r.few, le-leb (store_size B k) a r.room);
}

-- ---- how long it must be

-- what is needed is the size, or nothing
pub some_needed : (B k : ℕ) → 1 ≤ store_needed B k → store_needed B k ≡ store_size B k
unfolding store_needed
some_needed B k h = by_test (valid_size B && (valid_width k && (leb k B && leb (store_size B k) (2 ^ 32)))) (store_size B k) h
  where
    by_test : (t : Bool) (x : ℕ) → 1 ≤ cond t x 0 → cond t x 0 ≡ x
    by_test true x h = refl
    by_test false x h = absurd (omega arith)

pub needed_suffices : NeededSuffices
unfolding store_suffices store_needed
needed_suffices B k a block width chosen = by_sum (leb (store_size B k) (2 ^ 32)) refl
  where
    some : 1 ≤ store_size B k
    some = size_some B (widest k) (omega arith) (omega (arith, valid_facts B block))

    by_sum : (t : Bool) → leb (store_size B k) (2 ^ 32) ≡ t → store_suffices B k a ≡ (leb 1 (store_needed B k) && leb (store_needed B k) a)
    by_sum true e = simp (block, width, le-leb k B chosen, e, le-leb 1 (store_size B k) some)
    by_sum false e = simp (block, width, le-leb k B chosen, e)
