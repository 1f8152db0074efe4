-- `block::bits_block_eval` meets its contract: from the last bit back, the result is the bin of the bits passed.
use mathlib.Core.Path.{◌≡◌, sym, ap, ◌∙◌}
use mathlib.Core.Bool.{Bool}
use mathlib.Core.List.{List, reverse}
use Prim.Native.Nat.{ℕ, ◌+◌, ◌-◌, ◌*◌, ◌/◌, ◌%◌, ◌^◌, ◌<◌}
use native.Mathlib.Omega.{arith}
use lib.ListN.{length, get_or, drop}
use lib.Seq.{drop-length}
use Rattle.std.proofs.lemmas.Iterator.Adapters.{YieldsList-from_rev_slice}
use Rattle.std.proofs.lemmas.Iterator.Consumers.{YieldsList-turn, YieldsList-end}
use Rattle.std.proofs.lemmas.List.{length-reverse, get_or-reverse, get_or_default, length_push}
use Rattle.counting.specs.Block.{place_in, block_bit, bin_of}
use Rattle.counting.proofs.Lanes.{bit_lt}
use Rattle.counting.proofs.Counts.{bin_lt, bin_drop, bin_small}
use Rattle.counting.proofs.block.bits_block_eval.Goals.{At-loop-bit}
use Rattle.counting.proofs.block.bits_block_eval.Goals as goal

bit_small : (low : Bool) (block : List ℕ) (b : ℕ) → block_bit low block b < 2
unfolding block_bit
bit_small low block b = bit_lt (get_or block (b / 8) 0) (place_in low (b % 8))

-- the result at a turn is the bin of at most 20 bits
small : (d : At-loop-bit) → d.loop-bit.result < 2 ^ 20
small d =
    rw d.loop-bit.invariant (bin_small _ (bit_small _ _) d.args.bits.now (length d.args.bits.now - length d.loop-bit.yielded) d.requires.bits_len_bound)

-- a bit more from the end of the bits: the one after those that are passed from the back
one_more : (f : ℕ → ℕ) (bits : List ℕ) (n x b r : ℕ) → n < length bits → x ≡ get_or (reverse bits) n x → b ≡ f x → r ≡ bin_of f (drop (length bits - n) bits)
    → 2 * r + b ≡ bin_of f (drop (length bits - (n + 1)) bits)
one_more f bits n x b r inside at is so_far =
    let before : length bits - n - 1 ≡ length bits - (n + 1) = omega arith in
    let place : length bits - 1 - n ≡ length bits - n - 1 = omega arith in
    let here : x ≡ get_or bits (length bits - n - 1) 0 =
    at ∙ get_or-reverse bits n x inside ∙ get_or_default bits (length bits - 1 - n) x 0 (omega arith) ∙ ap (λ (k : ℕ). get_or bits k 0) place in
    rw (← before) (omega (arith, bin_drop f bits (length bits - n) (omega arith) (omega arith), is, so_far, ap f here))

pub loop-bit-init : goal.loop-bit-init
unfolding bin_of
loop-bit-init c =
    let a = c.args in
    let all : length a.bits.now - 0 ≡ length a.bits.now = omega arith in
    rw all (sym (ap (bin_of (block_bit a.low_first a.block.now)) (drop-length a.bits.now)))

pub overflow_mul-result : goal.overflow_mul-result
overflow_mul-result c = omega (arith, small (goal.at.overflow_mul-result c).At-loop-bit)

pub overflow_add-result : goal.overflow_add-result
overflow_add-result c = omega (arith, small (goal.at.overflow_add-result c).At-loop-bit, c.bit_value_in_block.ensures)

pub loop-bit-preserved : goal.loop-bit-preserved
loop-bit-preserved c =
    let a = c.args in
    let here = YieldsList-turn (YieldsList-from_rev_slice a.bits.now cc) c.loop-bit.yielded _ c.loop-bit.yielded_by _ _ c.in-Some.bit c.in-Some.is c.next.ensures.steps in
    rw (length_push c.loop-bit.yielded c.in-Some.bit)
    (one_more (block_bit a.low_first a.block.now) a.bits.now (length c.loop-bit.yielded) c.in-Some.bit.now c.bit_value_in_block.result c.loop-bit.result
    (omega (arith, here.0, length-reverse a.bits.now)) here.1 c.bit_value_in_block.ensures.0 c.loop-bit.invariant)

pub returns : goal.returns
returns c =
    let a = c.args in
    let f : ℕ → ℕ = block_bit a.low_first a.block.now in
    let all = YieldsList-end (YieldsList-from_rev_slice a.bits.now cc) c.loop-bit.yielded _ c.loop-bit.yielded_by _ _ c.in-None.is c.next.ensures.steps in
    let past : length a.bits.now - length c.loop-bit.yielded ≡ 0 = omega (arith, all.1, length-reverse a.bits.now) in
    let is : c.loop-bit.result ≡ bin_of f a.bits.now = c.loop-bit.invariant ∙ ap (λ (i : ℕ). bin_of f (drop i a.bits.now)) past in
    (is, rw is (bin_lt f (bit_small a.low_first a.block.now) a.bits.now))
