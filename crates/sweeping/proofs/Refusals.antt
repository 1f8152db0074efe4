-- The refusals of a sweep: pair by pair, and what none tells.
use mathlib.Core.Path.{◌≡◌, refl, sym, ap, ◌∙◌}
use mathlib.Core.Bool.{Bool, true, false}
use Prim.Native.Nat.{ℕ, zero, suc, ◌*◌, ◌/◌, ◌≤◌, ◌<◌}
use native.Mathlib.Nat.{div-le_self}
use native.Mathlib.Omega.{arith}
use lib.Dec.{leb}
use lib.ListN.{get_or}
use borrow.Author.Tests.{leb-true, leb-false, le-leb, lt-leb}
use Rattle.counting.specs.Recording.{block_bytes, capacity_bytes}
use Rattle.counting.proofs.Accepted.{passed}
use Rattle.searching.specs.Refusal.{or_else, buffer_refusal}
use Rattle.searching.proofs.Refusing.{or_first, or_next, neither, buffer_free}
use Rattle.judging.specs.Check.{scratch_refusal}
use Rattle.judging.specs.Split.{first_blocks}
use Rattle.judging.specs.Plan.{Plan}
use Rattle.judging.proofs.Checking.{room}
use Rattle.sweeping.specs.Pair.{Sizes, Sound, tested_blocks, Testable}
use Rattle.sweeping.specs.Refusal.{level_refusal, training_refusal, room_refusal, pair_refusal, pairs_refusal, unskipped, skipped_refusal, sweep_refusal}
use Rattle.sweeping.specs.declared.pair.Pair.{Pair}
use Rattle.sweeping.specs.declared.refusal.Room.{Room}

module _ (plan : Plan) (bytes : ℕ) (lent : Room) where
  -- pair i of the plan
  abbrev refusal_at : ℕ → ℕ
  refusal_at i = pair_refusal bytes (get_or plan.blocks i 0) (get_or plan.widths i 0) lent

  pub none_first : pairs_refusal plan bytes lent 0 ≡ 0
  unfolding pairs_refusal
  none_first = refl

  -- one pair more that is not refused
  pub one_free : (i : ℕ) → pairs_refusal plan bytes lent i ≡ 0 → refusal_at i ≡ 0 → pairs_refusal plan bytes lent (suc i) ≡ 0
  unfolding pairs_refusal
  one_free i none e = sym (or_next _ _ none) ∙ e

  -- the first that is refused
  one_refused : (i r : ℕ) → pairs_refusal plan bytes lent i ≡ 0 → r ≡ refusal_at i → r ≡ pairs_refusal plan bytes lent (suc i)
  unfolding pairs_refusal
  one_refused i r none e = e ∙ or_next _ _ none

  -- .. is that of every longer list
  stays : (i r : ℕ) → r ≡ pairs_refusal plan bytes lent i → (r ≡ 0 → ⊥) → (m : ℕ) → i ≤ m → r ≡ pairs_refusal plan bytes lent m
  unfolding pairs_refusal
  stays i r e h zero g = let z : i ≡ 0 = omega arith in e ∙ ap (pairs_refusal plan bytes lent) z
  stays i r e h (suc m) g = by_place (λ le. one m (stays i r e h m le)) (leb i m) refl
    where
      one : (m : ℕ) → r ≡ pairs_refusal plan bytes lent m → r ≡ or_else (pairs_refusal plan bytes lent m) (refusal_at m)
      one m x = x ∙ or_first _ _ (λ z. h (x ∙ z))

      by_place : (i ≤ m → r ≡ or_else (pairs_refusal plan bytes lent m) (refusal_at m)) → (t : Bool) → leb i m ≡ t → r ≡ pairs_refusal plan bytes lent (suc m)
      by_place before true p = before (leb-true i m p)
      by_place before false p = let same : i ≡ suc m = omega (arith, leb-false i m p) in e ∙ ap (pairs_refusal plan bytes lent) same

  pub refused_at : (i m r : ℕ) → i < m → pairs_refusal plan bytes lent i ≡ 0 → r ≡ refusal_at i → (r ≡ 0 → ⊥) → r ≡ pairs_refusal plan bytes lent m
  refused_at i m r less none e h = stays (suc i) r (one_refused i r none e) h m less

  -- where none of m pairs is refused, each of them is not
  pub each_free : (m i : ℕ) → i < m → pairs_refusal plan bytes lent m ≡ 0 → refusal_at i ≡ 0
  unfolding pairs_refusal
  each_free zero i h e = absurd (omega arith)
  each_free (suc m) i h e =
      let split = neither (pairs_refusal plan bytes lent m) (refusal_at m) e in
      by_place (λ g. each_free m i g split.0) split.1 (leb (suc i) m) refl
    where
      by_place : (i < m → refusal_at i ≡ 0) → refusal_at m ≡ 0 → (t : Bool) → leb (suc i) m ≡ t → refusal_at i ≡ 0
      by_place before last true p = before (leb-true (suc i) m p)
      by_place before last false p = let same : i ≡ m = omega (arith, leb-false (suc i) m p) in ap refusal_at same ∙ last

-- ---- every pair skipped

-- nothing follows
or_none : (r next : ℕ) → next ≡ 0 → r ≡ or_else r next
or_none zero next e = sym e
or_none (suc r) next e = refl

module _ (plan : Plan) (bytes : ℕ) where
  -- of fewer than two bytes no pair has two blocks
  skipped : bytes < 2 → (B : ℕ) → leb 2 (bytes / block_bytes B) ≡ false
  skipped few B = let h : bytes / block_bytes B < 2 = omega (arith, div-le_self bytes (block_bytes B)) in lt-leb _ _ h

  none_unskipped : bytes < 2 → (m : ℕ) → unskipped plan bytes m ≡ 0
  unfolding unskipped
  none_unskipped few zero = refl
  none_unskipped few (suc m) = simp (none_unskipped few m, skipped few (get_or plan.blocks m 0))

  none_refused : bytes < 2 → (lent : Room) (m : ℕ) → pairs_refusal plan bytes lent m ≡ 0
  unfolding pairs_refusal pair_refusal
  none_refused few lent zero = refl
  none_refused few lent (suc m) = simp (none_refused few lent m, skipped few (get_or plan.blocks m 0))

  pub nothing : bytes < 2 → (lent : Room) → 8 ≡ or_else (pairs_refusal plan bytes lent plan.pairs) (skipped_refusal plan bytes)
  unfolding skipped_refusal
  nothing few lent = simp (none_refused few lent plan.pairs, none_unskipped few plan.pairs)

  -- of two bytes or more the first pair has
  first_unskipped : 2 ≤ bytes → get_or plan.blocks 0 0 ≡ 8 → (m : ℕ) → 1 ≤ unskipped plan bytes (suc m)
  unfolding unskipped
  first_unskipped two first zero =
      let h : 2 ≤ bytes / 1 = omega arith in
      simp (first, le-leb 2 (bytes / 1) h) (omega arith)
  first_unskipped two first (suc m) = omega (arith, first_unskipped two first m)

  pub something : 2 ≤ bytes → Sound plan → plan.refusal ≡ 0 → (r : ℕ) → r ≡ or_else r (skipped_refusal plan bytes)
  unfolding skipped_refusal
  something two sound none r =
      let f = sound.first none in
      let some : 1 ≤ unskipped plan bytes plan.pairs = by_number plan.pairs f.0 f.1 in
      or_none r _ (simp (le-leb 1 (unskipped plan bytes plan.pairs) some))
    where
      by_number : (m : ℕ) → 1 ≤ m → get_or plan.blocks 0 0 ≡ 8 → 1 ≤ unskipped plan bytes m
      by_number zero h first = absurd (omega arith)
      by_number (suc m) h first = first_unskipped two first m

-- ---- a pair that is not refused

pub testable : (p : Pair) (bytes : ℕ) (lent : Room) → Sizes p.block_size p.width → pair_refusal bytes p.block_size p.width lent ≡ 0
    → 2 ≤ bytes / block_bytes p.block_size → Testable p bytes lent.words lent.bins lent.order lent.scratch lent.entries
unfolding pair_refusal training_refusal room_refusal
testable p bytes lent sizes free two =
    let B = p.block_size in
    let k = p.width in
    let m = bytes / block_bytes B in
    let all : or_else (training_refusal B m lent.words) (room_refusal m k lent) ≡ 0 = simp (le-leb 2 m two) at free in
    let q = neither (training_refusal B m lent.words) (room_refusal m k lent) all in
    let held = passed (leb (first_blocks m true * block_bytes B) (capacity_bytes B lent.words)) 0 5 (omega arith) q.0 in
    let r = neither (buffer_refusal k lent.bins lent.order) _ q.1 in
    let s = neither (scratch_refusal k lent.scratch) _ r.1 in
    let b = passed (leb (suc (tested_blocks m)) lent.entries) 0 7 (omega arith) s.1 in
    let buffers = buffer_free k lent.bins lent.order r.0 in
    record {
      sizes = sizes;
      two = two;
      held = leb-true _ _ held.0;
      room = (buffers.0, buffers.1, room k lent.scratch s.0);
      bracketing = leb-true _ _ b.0;
    }

-- ---- a sweep that is not refused

pub sweep_free : (a : ℕ) (plan : Plan) (bytes : ℕ) (lent : Room) → sweep_refusal a plan bytes lent ≡ 0 → (plan.refusal ≡ 0) × (pairs_refusal plan bytes lent plan.pairs ≡ 0)
unfolding sweep_refusal
sweep_free a plan bytes lent e =
    let p = neither (level_refusal a) _ e in
    let q = neither plan.refusal _ p.1 in
    (q.0, (neither (pairs_refusal plan bytes lent plan.pairs) _ q.1).0)
