-- The refusals of a search: what a refusal of 0 tells, and what is promised where there is one and where there is none.
use mathlib.Core.Path.{◌≡◌, refl, ap, subst, ◌∙◌}
use mathlib.Core.Bool.{Bool, cond}
use mathlib.Core.List.{List}
use Prim.Native.Nat.{ℕ, zero, suc, ◌/◌, ◌^◌, ◌≤◌}
use native.Mathlib.Nat.{le_trans, min-le_left, min-le_right, div-mul-le_self, mul_comm}
use native.Mathlib.Omega.{arith}
use lib.Dec.{leb}
use lib.ListN.{length}
use borrow.Author.Tests.{leb-true}
use Rattle.sampling.specs.Sampler.{blocks_of, sampler_refusal}
use Rattle.counting.specs.Stretch.{stretch_bit, span}
use Rattle.sampling.specs.Stretch.{stretch_of, stretch_refusal}
use Rattle.sampling.specs.declared.sampler.Head.{Head}
use Rattle.counting.specs.declared.stretch.Stretch.{Stretch}
use Rattle.counting.proofs.Accepted.{passed, valid_facts}
use Rattle.sampling.proofs.Usable.{Usable, usable}
use Rattle.layers.specs.Store.{store_suffices}
use Rattle.subsets.specs.Bits.{valid_width}
use Rattle.subsets.proofs.Refusing.{width_bounds}
use Rattle.searching.specs.Finding.{Searched, marked, refused_with}
use Rattle.searching.specs.Refusal.{or_else, width_refusal, buffer_refusal, search_refusal, bottomup_refusal}
use Rattle.searching.specs.Pass.{Searchable, Won}
use Rattle.searching.specs.Search.{Search, StretchSearch, answer_of, store_after}
use Rattle.searching.specs.declared.finding.Finding.{Finding}

-- ---- the first that applies

pub or_first : (r next : ℕ) → (r ≡ 0 → ⊥) → r ≡ or_else r next
or_first zero next h = absurd (h refl)
or_first (suc r) next h = refl

pub or_next : (r next : ℕ) → r ≡ 0 → next ≡ or_else r next
or_next r next e = rw e

pub neither : (r next : ℕ) → or_else r next ≡ 0 → (r ≡ 0) × (next ≡ 0)
neither zero next e = (refl, e)
neither (suc r) next e = absurd (omega arith)

pub record Width (B k : ℕ) : Type 0 where
  pub some : 1 ≤ k
  pub width : k ≤ 20
  pub chosen : k ≤ B

pub width_free : (B k : ℕ) → width_refusal B k ≡ 0 → Width B k
unfolding width_refusal
width_free B k e =
    let p = passed (valid_width k) (cond (leb k B) 0 3) 2 (omega arith) e in
    let q = passed (leb k B) 0 3 (omega arith) p.1 in
    let w = width_bounds k p.0 in
    record { some = w.0; width = w.1; chosen = leb-true k B q.0 }

pub buffer_free : (k a b : ℕ) → buffer_refusal k a b ≡ 0 → (2 ^ k ≤ a) × (2 ^ k ≤ b)
unfolding buffer_refusal
buffer_free k a b e =
    let p = passed (leb (2 ^ k) a) (cond (leb (2 ^ k) b) 0 7) 7 (omega arith) e in
    let q = passed (leb (2 ^ k) b) 0 7 (omega arith) p.1 in
    (leb-true (2 ^ k) a p.0, leb-true (2 ^ k) b q.0)

-- ---- what can be searched

-- the sampler has the blocks from `first` to before `end`
pub record Ordered (s : Head) (first end : ℕ) : Type 0 where
  pub order : first ≤ end
  pub held : end ≤ blocks_of s

pub stretch_free : (s : Head) (first end : ℕ) → stretch_refusal s first end ≡ 0 → Ordered s first end
unfolding stretch_refusal
stretch_free s first end e =
    let p = passed (leb first end) (cond (leb end (blocks_of s)) 0 18) 18 (omega arith) e in
    let q = passed (leb end (blocks_of s)) 0 18 (omega arith) p.1 in
    record { order = leb-true first end p.0; held = leb-true end (blocks_of s) q.0 }

-- the sampler has these words and these blocks, and the width fits its block
pub record SearchFree (s : Head) (words first end k : ℕ) : Type 0 where
  pub usable : Usable s words
  pub ordered : Ordered s first end
  pub width : Width s.block_size k

pub search_free : (s : Head) (words first end k : ℕ) → search_refusal s words first end k ≡ 0 → SearchFree s words first end k
unfolding search_refusal
search_free s words first end k e =
    let p = neither (sampler_refusal s words) _ e in
    let q = neither (stretch_refusal s first end) _ p.1 in
    record { usable = usable s words p.0; ordered = stretch_free s first end q.0; width = width_free s.block_size k q.1 }

pub searchable : (s : Head) (words first end k : ℕ) (x : Stretch) → x ≡ stretch_of s words first end → SearchFree s words first end k → Searchable words x k
searchable s words first end k x is f =
    let B = s.block_size in
    let v = valid_facts B f.usable.valid in
    let blocks = le_trans f.ordered.held f.usable.within in
    rw is (record {
      some = f.width.some;
      width = f.width.width;
      chosen = f.width.chosen;
      size = v.high;
      rows = (omega (arith, div-mul-le_self words B, mul_comm B (words / B)), (f.ordered.order, le_trans blocks (min-le_left _ _), le_trans blocks (min-le_right _ _)));
    })

pub record BottomupFree (s : Head) (words first end k bins order : ℕ) : Type 0 where
  pub search : SearchFree s words first end k
  pub room : (2 ^ k ≤ bins) × (2 ^ k ≤ order)

pub bottomup_free : (s : Head) (words first end k bins order : ℕ) → bottomup_refusal s words first end k bins order ≡ 0 → BottomupFree s words first end k bins order
unfolding bottomup_refusal
bottomup_free s words first end k bins order e =
    let p = neither (search_refusal s words first end k) _ e in
    record { search = search_free s words first end k p.0; room = buffer_free k bins order p.1 }

-- ---- the promise

-- the refusal that is answered
pub said_is : (r : ℕ) (low : Bool) (bit : ℕ → ℕ → ℕ) (n B k : ℕ) (answer : Searched) → answer ≡ answer_of r low bit n B k → answer.refusal ≡ r
said_is zero low bit n B k answer e = ap (λ (q : Searched). q.refusal) e
said_is (suc r) low bit n B k answer e = ap (λ (q : Searched). q.refusal) e

pub search_refused : (r : ℕ) (low : Bool) (bit : ℕ → ℕ → ℕ) (n B k : ℕ) (bins order : List ℕ) (answer : Searched)
    → (r ≡ 0 → ⊥) → answer ≡ refused_with r → Search r low bit n B k bins order answer bins order
search_refused zero low bit n B k bins order answer h e = absurd (h refl)
search_refused (suc r) low bit n B k bins order answer h e = record { answered = e; counted = refl; ordered = refl }

pub search_found : (r : ℕ) (s : Head) (ws : List ℕ) (first end k : ℕ) (x : Stretch) (bins order : List ℕ) (f g : Finding) (bins' order' : List ℕ)
    → x ≡ stretch_of s (length ws) first end → r ≡ 0 → Won (stretch_bit x ws) (span x) x.block_size k bins order f bins' order' → g ≡ marked s.low_first f
    → StretchSearch r s ws first end k bins order (record { refusal = 0; finding = g }) bins' order'
search_found r s ws first end k x bins order f g bins' order' is e won mark =
    let w = subst (λ (y : Stretch). Won (stretch_bit y ws) (span y) y.block_size k bins order f bins' order') is won in
    rw e (record {
      answered = ap (λ (h : Finding). record { refusal = 0; finding = h }) (mark ∙ ap (marked s.low_first) w.found);
      counted = w.counted;
      ordered = w.ordered;
    })

-- ---- and of the store

pub store_refused : (r : ℕ) (suffices : Bool) (bit : ℕ → ℕ → ℕ) (n B k : ℕ) (store : List ℕ) → (r ≡ 0 → ⊥) → store ≡ store_after r suffices bit n B k store
store_refused zero suffices bit n B k store h = absurd (h refl)
store_refused (suc r) suffices bit n B k store h = refl

pub store_left : (r : ℕ) (s : Head) (ws : List ℕ) (first end k : ℕ) (x : Stretch) (store store' : List ℕ)
    → x ≡ stretch_of s (length ws) first end → r ≡ 0
    → store' ≡ store_after 0 (store_suffices x.block_size k (length store)) (stretch_bit x ws) (span x) x.block_size k store
    → let y = stretch_of s (length ws) first end in
    store' ≡ store_after r (store_suffices s.block_size k (length store)) (stretch_bit y ws) (span y) s.block_size k store
store_left r s ws first end k x store store' is e h =
    let f = subst (λ (y : Stretch). store' ≡ store_after 0 (store_suffices y.block_size k (length store)) (stretch_bit y ws) (span y) y.block_size k store) is h in
    rw e f
