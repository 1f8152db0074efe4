-- `putting::Layout::put_bytes` meets its contract: after n turns the words are those with n bytes put in, the place is that of the next byte, and each byte lies within the words.
use mathlib.Core.Path.{◌≡◌, refl, sym, ap, ◌∙◌}
use Prim.Native.Nat.{ℕ, ◌+◌, ◌*◌, ◌/◌, ◌%◌, ◌<◌}
use native.Mathlib.Nat.{add-zero}
use native.Mathlib.Omega.{arith}
use lib.Arith.{digits_div, digits_mod}
use lib.ListN.{length, get_or}
use Rattle.sampling.specs.Putting.{put_bits, put_byte, put_bytes}
use Rattle.sampling.proofs.Filling.{put_bytes_next, At, at_place}
use Rattle.sampling.proofs.putting.Layout.put_bytes.Invariants.{number}
use Rattle.sampling.proofs.putting.Layout.put_bytes.Goals.{At-loop-x}
use Rattle.sampling.proofs.putting.Layout.put_bytes.Goals as goal

-- ---- the place at a turn

abbrev byte-number : At-loop-x → ℕ
byte-number l = number l.args.self.size l.args.from + l.loop-x.x-index

block_is : (l : At-loop-x) → l.loop-x.place.block ≡ byte-number l / l.args.self.size
block_is l = sym (digits_div l.loop-x.place.block l.loop-x.invariant.2) ∙ ap (λ (t : ℕ). t / l.args.self.size) l.loop-x.invariant.1

byte_is : (l : At-loop-x) → l.loop-x.place.byte ≡ byte-number l % l.args.self.size
byte_is l = sym (digits_mod l.loop-x.place.block l.loop-x.invariant.2) ∙ ap (λ (t : ℕ). t % l.args.self.size) l.loop-x.invariant.1

-- the byte lies within the words
here : (l : At-loop-x) → l.loop-x.x-index < length l.args.bytes.now
    → At l.args.self.stride (length l.args.words.now) l.loop-x.place.block l.loop-x.place.byte
here l h =
    let a = l.args in
    let inside : byte-number l < 64 * a.self.stride * a.self.size = omega (arith, l.requires) in
    let some : 0 < a.self.size = omega (arith, l.requires) in
    at_place a.self.size a.self.stride (byte-number l) (length a.words.now) l.loop-x.place.block l.loop-x.place.byte some inside l.requires.stride_in_bounds l.loop-x.invariant.1 l.loop-x.invariant.2

pub loop-x-init : goal.loop-x-init
unfolding put_bytes
loop-x-init c =
    let a = c.args in
    (refl, sym (add-zero (number a.self.size a.from)), c.requires.byte_lt_size)

pub put_byte-requires-clause-stride_in_bounds : goal.put_byte-requires-clause-stride_in_bounds
put_byte-requires-clause-stride_in_bounds c = omega (arith, here (goal.at.put_byte-requires-clause-stride_in_bounds c).At-loop-x c.loop-x-test.true, c.loop-x.auto)

pub loop-x-preserved : goal.loop-x-preserved
unfolding put_byte
loop-x-preserved c =
    let a = c.args in
    let l = (goal.at.loop-x-preserved c).At-loop-x in
    let n = c.loop-x.x-index in
    let next = c.next-place.ensures in (
      c.put_byte.ensures
          ∙ (λ i. put_bits a.self.low_first a.self.stride (c.loop-x.invariant.0 i) (8 * byte_is l i * a.self.stride + block_is l i / 64) (block_is l i % 64) (get_or a.bytes.now n 0) 8)
          ∙ sym (put_bytes_next a.self.low_first a.self.size a.self.stride a.words.now (number a.self.size a.from) a.bytes.now n),
      omega (arith, next.0, c.loop-x.invariant.1),
      next.1,
    )
