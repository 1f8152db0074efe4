-- What a feed that is not refused does, as code does it: the piece is kept where it completes no block, and else its blocks are put in and what is past them is kept.
use mathlib.Core.Path.{◌≡◌, refl, sym, ap, ap₂, ◌∙◌}
use mathlib.Core.List.{List, ◌++◌, append_assoc, append-nil}
use Prim.Native.Nat.{ℕ, ◌+◌, ◌-◌, ◌*◌, ◌/◌, ◌%◌, ◌≤◌, ◌<◌}
use native.Mathlib.Omega.{arith}
use native.Mathlib.Nat.{add-mul, div-add-mod', mul-le-mul_right}
use lib.ListN.{length, take, drop, replicate, length-append, length-drop, take-append-drop}
use lib.Seq.{take-add, drop-drop, length-take-le}
use borrow.Rule.Slice.PartMut.{put_mid}
use Rattle.counting.specs.Buffer.{put}
use Rattle.counting.specs.Recording.{block_bytes, stride, blocks_in}
use Rattle.counting.proofs.Accepted.{Valid, valid_facts}
use Rattle.counting.proofs.Buffers.{put_put}
use Rattle.sampling.specs.Cut.{whole, rest}
use Rattle.sampling.specs.Feeding.{together, completed, Completes, feed_refusal, left_on, fed_unfinished, fed_words}
use Rattle.sampling.specs.Putting.{put_bytes}
use Rattle.sampling.specs.Sampler.{pending, tail_of}
use Rattle.sampling.specs.declared.sampler.Head.{Head}
use Rattle.sampling.proofs.Cutting.{rest_short, none_whole, none_rest, some_whole, some_rest, used_within}
use Rattle.sampling.proofs.Filling.{put_both, put_no_bytes}
use Rattle.sampling.proofs.Usable.{Accepted, accepted, room_words, room_lanes}

-- what is written to a part of a slice is put at its place
pub put_part : (u : List ℕ) (at k : ℕ) (part s : List ℕ) → part ≡ s → length s ≡ k → put_mid at k u part ≡ put u at s
unfolding put
put_part u at k part s e many =
    (λ i. put_mid at (sym many i) u (e i)) ∙ ap (λ (r : List ℕ). take at u ++ (s ++ r)) (drop-drop (length s) at u) ∙ sym (append_assoc (take at u) s (drop (at + length s) u))

-- what stands in a buffer, put there again, changes nothing
put_again : (u : List ℕ) (at t : ℕ) → at + t ≤ length u → put u at (take t (drop at u)) ≡ u
unfolding put
put_again u at t h =
    let len : length (take t (drop at u)) ≡ t = length-take-le t (drop at u) (rw length-drop (omega arith)) in
    ap₂ (λ (a : List ℕ) (k : ℕ). a ++ drop (at + k) u) (sym (take-add at t u)) len ∙ take-append-drop (at + t) u

-- .. and what is written behind it stands behind it
pub put_behind : (u : List ℕ) (at t : ℕ) (s : List ℕ) → at + t ≤ length u → put u (at + t) s ≡ put u at (take t (drop at u) ++ s)
put_behind u at t s h =
    let len : at + length (take t (drop at u)) ≡ at + t = ap (λ (k : ℕ). at + k) (length-take-le t (drop at u) (rw length-drop (omega arith))) in
    ap (λ (l : List ℕ). put l (at + t) s) (sym (put_again u at t h)) ∙ put_put u at (take t (drop at u)) s (at + t) len h

module _ (s : Head) (u ws : List ℕ) (board : ℕ) (piece : List ℕ) (long : length u ≡ 2048)
    (free : feed_refusal s (length ws) board (length piece) ≡ 0) where
  abbrev B : ℕ
  B = s.block_size

  abbrev size : ℕ
  size = block_bytes B

  abbrev S : ℕ
  S = stride B (length ws)

  abbrev t : ℕ
  t = pending s board

  abbrev tail : List ℕ
  tail = tail_of s u board

  abbrev at : ℕ
  at = 512 * board

  taken_in : Accepted s (length ws) board (length piece)
  taken_in = accepted s (length ws) board (length piece) free

  valid : Valid B
  valid = valid_facts B taken_in.usable.valid

  some_bytes : 0 < size
  some_bytes = omega (arith, valid)

  named : board < 4
  named = taken_in.named

  short : t < size
  short = taken_in.usable.short board taken_in.named

  -- a board's bytes have room for a block
  room : at + 512 ≤ length u
  room = omega (arith, long, named)

  at_most : size ≤ 512
  at_most = omega (arith, valid)

  tail_is : tail ≡ take t (drop at u)
  unfolding tail_of
  tail_is = refl

  tail_long : length tail ≡ t
  tail_long = ap length tail_is ∙ length-take-le t (drop at u) (rw length-drop (omega (arith, room, short, at_most)))

  blocks_are : blocks_in B (tail ++ piece) ≡ completed s board (length piece)
  blocks_are = ap (λ (k : ℕ). k / size) (length-append tail piece ∙ ap (λ (k : ℕ). k + length piece) tail_long)

  -- what is left, written out
  left_is : left_on s u board piece ≡ rest B (tail ++ piece) ++ replicate (t - length (rest B (tail ++ piece))) 0
  unfolding left_on
  left_is = refl

  kept_is : fed_unfinished s (length ws) u board piece ≡ put u at (left_on s u board piece)
  unfolding fed_unfinished
  kept_is = simp free

  put_is : fed_words s u ws board piece ≡ put_bytes s.low_first size S ws (s.blocks * size) (whole B (tail ++ piece)) (length (whole B (tail ++ piece)))
  unfolding fed_words
  put_is = simp free

  -- ---- no block is completed

  none_put : completed s board (length piece) ≡ 0 → fed_words s u ws board piece ≡ ws
  none_put none =
      put_is ∙ ap (λ (l : List ℕ). put_bytes s.low_first size S ws (s.blocks * size) l (length l)) (none_whole B tail piece (blocks_are ∙ none))
      ∙ put_no_bytes s.low_first size S ws (s.blocks * size)

  none_kept : completed s board (length piece) ≡ 0 → fed_unfinished s (length ws) u board piece ≡ put u (at + t) piece
  none_kept none =
      let all : rest B (tail ++ piece) ≡ tail ++ piece = none_rest B tail piece (blocks_are ∙ none) in
      let no_more : t - length (rest B (tail ++ piece)) ≡ 0 = rw (all, length-append, tail_long) (omega arith) in
      let left : left_on s u board piece ≡ take t (drop at u) ++ piece =
      left_is ∙ (λ i. all i ++ replicate (no_more i) 0) ∙ append-nil (tail ++ piece) ∙ ap (λ (l : List ℕ). l ++ piece) tail_is in
      kept_is ∙ ap (put u at) left ∙ sym (put_behind u at t piece (omega (arith, room, short, at_most)))

  -- the piece has room behind the unfinished bytes
  none_fits : completed s board (length piece) ≡ 0 → at + t + length piece ≤ length u
  none_fits none =
      let all : rest B (tail ++ piece) ≡ tail ++ piece = none_rest B tail piece (blocks_are ∙ none) in
      let few : length (tail ++ piece) < size = rw all at (rest_short B some_bytes (tail ++ piece)) in
      omega (arith, length-append tail piece, tail_long, room, at_most)

  -- ---- the blocks that are completed use so many bytes of the piece

  module _ (used : ℕ) (completes : Completes s board (length piece) used) where
    reach : length tail + used ≡ blocks_in B (tail ++ piece) * size
    reach = ap (λ (k : ℕ). k + used) tail_long ∙ completes.1 ∙ ap (λ (k : ℕ). k * size) (sym blocks_are)

    used_in : used ≤ length piece
    used_in = used_within B tail piece used reach

    left_bytes_is : rest B (tail ++ piece) ≡ drop used piece
    left_bytes_is = some_rest B tail piece used reach

    left_short : length piece - used < size
    left_short =
        let few : length (drop used piece) < size = rw left_bytes_is at (rest_short B some_bytes (tail ++ piece)) in
        omega (arith, length-drop used piece)

    some_kept : fed_unfinished s (length ws) u board piece
        ≡ put (put u at (drop used piece)) (at + length (drop used piece)) (replicate (t - length (drop used piece)) 0)
    some_kept =
        let behind : at + length (drop used piece) ≤ length u = rw length-drop (omega (arith, left_short, room, at_most)) in
        kept_is ∙ ap (put u at) (left_is ∙ ap (λ (l : List ℕ). l ++ replicate (t - length l) 0) left_bytes_is)
        ∙ sym (put_put u at (drop used piece) (replicate (t - length (drop used piece)) 0) (at + length (drop used piece)) refl behind)

    some_put : fed_words s u ws board piece
        ≡ put_bytes s.low_first size S (put_bytes s.low_first size S ws (s.blocks * size) tail (length tail)) (s.blocks * size + length tail) (take used piece) (length (take used piece))
    some_put =
        put_is ∙ ap (λ (l : List ℕ). put_bytes s.low_first size S ws (s.blocks * size) l (length l)) (some_whole B tail piece used reach)
        ∙ sym (put_both s.low_first size S ws (s.blocks * size) tail (take used piece))

    -- the blocks have lanes
    lanes : s.blocks * size + (t + used) ≤ 64 * S * size
    lanes =
        let sum : s.blocks * size + (t + used) ≡ (s.blocks + completed s board (length piece)) * size =
        ap (λ (k : ℕ). s.blocks * size + k) completes.1 ∙ sym (add-mul s.blocks (completed s board (length piece)) size) in
        rw sum (room_lanes B (length ws) (s.blocks + completed s board (length piece)) taken_in.room)

  rows : 8 * size * S ≤ length ws
  rows = room_words B (length ws) valid

-- ---- what the functions of a feed that is not refused know

pub record Fits (s : Head) (u ws : List ℕ) (board : ℕ) (piece : List ℕ) : Type 0 where
  pub size : 8 ≤ s.block_size
  pub at_most : block_bytes s.block_size ≤ 512
  pub named : board < 4
  pub short : pending s board < block_bytes s.block_size
  pub long : length u ≡ 2048
  pub tail : take (pending s board) (drop (512 * board) u) ≡ tail_of s u board
  pub tail_long : length (tail_of s u board) ≡ pending s board

pub fits : (s : Head) (u ws : List ℕ) (board : ℕ) (piece : List ℕ) → length u ≡ 2048 → feed_refusal s (length ws) board (length piece) ≡ 0 → Fits s u ws board piece
fits s u ws board piece long free = record {
  size = (valid s u ws board piece long free).low;
  at_most = at_most s u ws board piece long free;
  named = named s u ws board piece long free;
  short = short s u ws board piece long free;
  long = long;
  tail = sym (tail_is s u ws board piece long free);
  tail_long = tail_long s u ws board piece long free;
}

-- .. where so many bytes of the piece are used
pub record Uses (s : Head) (u ws : List ℕ) (board : ℕ) (piece : List ℕ) (used : ℕ) : Type 0 where
  pub fit : Fits s u ws board piece
  pub used_in : used ≤ length piece
  pub left_short : length piece - used < block_bytes s.block_size
  pub rows : 8 * block_bytes s.block_size * stride s.block_size (length ws) ≤ length ws
  pub lanes : s.blocks * block_bytes s.block_size + (pending s board + used) ≤ 64 * stride s.block_size (length ws) * block_bytes s.block_size
  pub kept : fed_unfinished s (length ws) u board piece
      ≡ put (put u (512 * board) (drop used piece)) (512 * board + length (drop used piece)) (replicate (pending s board - length (drop used piece)) 0)
  pub put_in :
      let size = block_bytes s.block_size in
      let S = stride s.block_size (length ws) in
      let tail = tail_of s u board in
      fed_words s u ws board piece
      ≡ put_bytes s.low_first size S (put_bytes s.low_first size S ws (s.blocks * size) tail (length tail)) (s.blocks * size + length tail) (take used piece) (length (take used piece))

pub uses : (s : Head) (u ws : List ℕ) (board : ℕ) (piece : List ℕ) (used : ℕ) → length u ≡ 2048 → feed_refusal s (length ws) board (length piece) ≡ 0
    → Completes s board (length piece) used → Uses s u ws board piece used
uses s u ws board piece used long free c = record {
  fit = fits s u ws board piece long free;
  used_in = used_in s u ws board piece long free used c;
  left_short = left_short s u ws board piece long free used c;
  rows = rows s u ws board piece long free;
  lanes = lanes s u ws board piece long free used c;
  kept = some_kept s u ws board piece long free used c;
  put_in = some_put s u ws board piece long free used c;
}

-- .. where it completes no block
pub record Keeps (s : Head) (u ws : List ℕ) (board : ℕ) (piece : List ℕ) : Type 0 where
  pub room : 512 * board + pending s board + length piece ≤ length u
  pub kept : fed_unfinished s (length ws) u board piece ≡ put u (512 * board + pending s board) piece
  pub words : fed_words s u ws board piece ≡ ws

pub keeps : (s : Head) (u ws : List ℕ) (board : ℕ) (piece : List ℕ) → length u ≡ 2048 → feed_refusal s (length ws) board (length piece) ≡ 0
    → completed s board (length piece) ≡ 0 → Keeps s u ws board piece
keeps s u ws board piece long free none = record {
  room = none_fits s u ws board piece long free none;
  kept = none_kept s u ws board piece long free none;
  words = none_put s u ws board piece long free none;
}

-- the bytes that are used, as code works them out
pub uses_so_many : (s : Head) (u ws : List ℕ) (board : ℕ) (piece : List ℕ) → length u ≡ 2048 → feed_refusal s (length ws) board (length piece) ≡ 0
    → 1 ≤ completed s board (length piece)
    → let left = together s board (length piece) % block_bytes s.block_size in
    (left ≤ length piece) × Completes s board (length piece) (length piece - left)
uses_so_many s u ws board piece long free some =
    let new = length piece in
    let one : 1 * block_bytes s.block_size ≤ completed s board new * block_bytes s.block_size = mul-le-mul_right (block_bytes s.block_size) some in
    let t = short s u ws board piece long free in
    let all = div-add-mod' (together s board new) (block_bytes s.block_size) in
    let few : together s board new % block_bytes s.block_size ≤ new = omega arith in
    (few, (some, omega arith))
