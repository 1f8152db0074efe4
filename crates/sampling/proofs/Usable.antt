-- What a refusal of 0 tells of a sampler, of a feed and of a sampler of the earlier rule; and how far blocks and bytes reach.
use mathlib.Core.Path.{◌≡◌, refl, sym, ap, ◌∙◌}
use mathlib.Core.Bool.{Bool, true, false, cond, ◌&&◌}
use Prim.Native.Nat.{ℕ, zero, suc, ◌+◌, ◌*◌, ◌/◌, ◌%◌, ◌≤◌, ◌<◌}
use native.Mathlib.Omega.{arith}
use native.Mathlib.Nat.{min-le_left, min-le_right, mul-le-mul, mul-le-mul_right, div-mul-le_self, div-le_of_le-mul, mul_comm}
use lib.Dec.{leb, ltb, eqb}
use borrow.Author.Tests.{leb-true, ltb-true, eqb-true}
use Rattle.std.specs.Prelude.{Ok}
use Rattle.counting.specs.Block.{valid_size}
use Rattle.counting.specs.Recording.{block_bytes, stride, capacity, capacity_bytes}
use Rattle.counting.proofs.Accepted.{passed, Valid}
use Rattle.sampling.specs.Earlier.{earlier_refusal}
use Rattle.sampling.specs.Feeding.{together, completed, feed_refusal, Taken, as_taken, taken_of, next_head, fed_head}
use Rattle.sampling.specs.Sampler.{pending, each_short, sampler_refusal}
use Rattle.sampling.specs.declared.carrying.Earlier.{Earlier}
use Rattle.sampling.specs.declared.feeding.Taken.{Taken as TakenNumbers}
use Rattle.sampling.specs.declared.sampler.Head.{Head}

-- both hold
two : (a b : Bool) → (a && b) ≡ true → (a ≡ true) × (b ≡ true)
two true b h = (refl, h)
two false b h = let z : ◌≡◌ {A = ℕ} 0 1 = cc in absurd (omega arith)

-- a sampler of these words
pub record Usable (s : Head) (words : ℕ) : Type 0 where
  pub valid : valid_size s.block_size ≡ true
  pub same : s.words ≡ words
  pub within : s.blocks ≤ capacity s.block_size words
  pub short : (b : ℕ) → b < 4 → pending s b < block_bytes s.block_size

each_short_is : (s : Head) → each_short s ≡ true → (b : ℕ) → b < 4 → pending s b < block_bytes s.block_size
each_short_is s h =
    let size = block_bytes s.block_size in
    let p = two (ltb (pending s 0) size) _ h in
    let q = two (ltb (pending s 1) size) _ p.1 in
    let r = two (ltb (pending s 2) size) _ q.1 in
    by_board (ltb-true _ _ p.0) (ltb-true _ _ q.0) (ltb-true _ _ r.0) (ltb-true _ _ r.1)
  where
    by_board : pending s 0 < block_bytes s.block_size → pending s 1 < block_bytes s.block_size → pending s 2 < block_bytes s.block_size
        → pending s 3 < block_bytes s.block_size → (b : ℕ) → b < 4 → pending s b < block_bytes s.block_size
    by_board p q r t zero l = p
    by_board p q r t (suc zero) l = q
    by_board p q r t (suc (suc zero)) l = r
    by_board p q r t (suc (suc (suc zero))) l = t
    by_board p q r t (suc (suc (suc (suc b)))) l = absurd (omega arith)

pub usable : (s : Head) (words : ℕ) → sampler_refusal s words ≡ 0 → Usable s words
unfolding sampler_refusal
usable s words h =
    let p = passed (valid_size s.block_size) _ 4 (omega arith) h in
    let q = passed (eqb s.words words) _ 4 (omega arith) p.1 in
    let r = passed (leb s.blocks (capacity s.block_size words)) _ 4 (omega arith) q.1 in
    let t = passed (each_short s) 0 4 (omega arith) r.1 in
    record { valid = p.0; same = eqb-true _ _ q.0; within = leb-true _ _ r.0; short = each_short_is s t.0 }

-- .. and a piece that it can take
pub record Accepted (s : Head) (words board new : ℕ) : Type 0 where
  pub usable : Usable s words
  pub named : board < 4
  pub room : s.blocks + completed s board new ≤ capacity s.block_size words

-- the first of two refusals and the second are 0
pub both_none : (m x : ℕ) → cond (eqb m 0) x m ≡ 0 → (m ≡ 0) × (x ≡ 0)
both_none m x h = by_test (eqb m 0) refl h
  where
    by_test : (t : Bool) → eqb m 0 ≡ t → cond t x m ≡ 0 → (m ≡ 0) × (x ≡ 0)
    by_test true e h = (eqb-true m 0 e, h)
    by_test false e h = (h, absurd (let z : ◌≡◌ {A = ℕ} 0 1 = cc (ap (λ (k : ℕ). eqb k 0) h) in omega arith))

pub accepted : (s : Head) (words board new : ℕ) → feed_refusal s words board new ≡ 0 → Accepted s words board new
unfolding feed_refusal
accepted s words board new h =
    let free = both_none (sampler_refusal s words) _ h in
    let b = passed (leb board 3) _ 21 (omega arith) free.1 in
    let t = passed (leb (s.blocks + completed s board new) (capacity s.block_size words)) 0 5 (omega arith) b.1 in
    record {
      usable = usable s words free.0;
      named = let l : board ≤ 3 = leb-true _ _ b.0 in omega arith;
      room = leb-true _ _ t.0;
    }

-- what a feed answers where the unfinished bytes are lent: its refusal, and the numbers after it
pub taken_refusal : (s : Head) (words board new : ℕ) → (taken_of s words board new).refusal ≡ feed_refusal s words board new
unfolding taken_of
taken_refusal s words board new = by_test (eqb (feed_refusal s words board new) 0) refl
  where
    by_test : (t : Bool) → eqb (feed_refusal s words board new) 0 ≡ t → (taken_of s words board new).refusal ≡ feed_refusal s words board new
    by_test true e = rw e (sym (eqb-true _ _ e))
    by_test false e = rw e refl

-- .. of a feed that is not refused
pub record Takes (s : Head) (words board new : ℕ) (t : TakenNumbers) : Type 0 where
  pub free : feed_refusal s words board new ≡ 0
  pub blocks : t.blocks ≡ s.blocks + completed s board new
  pub left : t.left ≡ together s board new % block_bytes s.block_size

pub takes : (s : Head) (words board new : ℕ) (t : TakenNumbers) → as_taken (Ok t) ≡ taken_of s words board new → Takes s words board new t
unfolding taken_of
takes s words board new t e =
    let free : feed_refusal s words board new ≡ 0 = sym (taken_refusal s words board new) ∙ sym (ap (λ (x : Taken). x.refusal) e) in
    let now : as_taken (Ok t) ≡ record { refusal = 0; blocks = s.blocks + completed s board new; left = together s board new % block_bytes s.block_size } =
    e ∙ simp free refl in
    record { free = free; blocks = ap (λ (x : Taken). x.blocks) now; left = ap (λ (x : Taken). x.left) now }

pub taken_named : (s : Head) (words board new : ℕ) → (taken_of s words board new).refusal ≡ 0 → board < 4
taken_named s words board new z = (accepted s words board new (sym (taken_refusal s words board new) ∙ z)).named

pub head_is : (s : Head) (words board new : ℕ) → fed_head s words board new ≡ next_head s board (taken_of s words board new)
unfolding fed_head next_head taken_of
head_is s words board new = by_test (eqb (feed_refusal s words board new) 0) refl
  where
    by_test : (t : Bool) → eqb (feed_refusal s words board new) 0 ≡ t → fed_head s words board new ≡ next_head s board (taken_of s words board new)
    by_test true e = rw e refl
    by_test false e = rw e (rw e refl)

-- a sampler of the earlier rule
pub record EarlierUsable (s : Earlier) (words : ℕ) : Type 0 where
  pub valid : valid_size s.block_size ≡ true
  pub same : s.words ≡ words
  pub within : s.taken ≤ capacity_bytes s.block_size words

pub earlier_usable : (s : Earlier) (words : ℕ) → earlier_refusal s words ≡ 0 → EarlierUsable s words
unfolding earlier_refusal
earlier_usable s words h =
    let p = passed (valid_size s.block_size) _ 4 (omega arith) h in
    let q = passed (eqb s.words words) _ 4 (omega arith) p.1 in
    let r = passed (leb s.taken (capacity_bytes s.block_size words)) 0 4 (omega arith) q.1 in
    record { valid = p.0; same = eqb-true _ _ q.0; within = leb-true _ _ r.0 }

-- the rows lie within the lent words
pub room_words : (B words : ℕ) → Valid B → 8 * block_bytes B * stride B words ≤ words
room_words B words v =
    let whole : 8 * (B / 8) ≡ B = omega arith in
    rw whole (omega (arith, div-mul-le_self words B, mul_comm B (words / B)))

-- the bytes that fit are at most those of 64 × S blocks
pub room_bytes : (B words : ℕ) → capacity_bytes B words ≤ 64 * stride B words * block_bytes B
room_bytes B words = mul-le-mul_right (B / 8) (min-le_left (64 * (words / B)) 16777216)

pub bytes_small : (B words : ℕ) → Valid B → capacity_bytes B words ≤ 8589934592
bytes_small B words v =
    let size : B / 8 ≤ 512 = omega arith in
    omega (arith, mul-le-mul (min-le_right (64 * (words / B)) 16777216) size)

-- the whole blocks of what fits are within capacity
pub room_blocks : (B words taken : ℕ) → Valid B → taken ≤ capacity_bytes B words → taken / block_bytes B ≤ capacity B words
room_blocks B words taken v h = div-le_of_le-mul (B / 8) (rw mul_comm at h)

-- blocks within capacity have a lane
pub room_lanes : (B words m : ℕ) → m ≤ capacity B words → m * block_bytes B ≤ 64 * stride B words * block_bytes B
room_lanes B words m h =
    let lanes : m ≤ 64 * stride B words = let l : capacity B words ≤ 64 * stride B words = min-le_left _ _ in omega arith in
    mul-le-mul_right (block_bytes B) lanes
