-- `carrying::Lane::byte` meets its contract: from the highest bit down, x is the number that the bits passed make.
use mathlib.Core.Path.{◌≡◌, refl, sym, ap, ◌∙◌}
use mathlib.Core.List.{List}
use Prim.Native.Nat.{ℕ, ◌+◌, ◌-◌, ◌*◌, ◌/◌, ◌%◌, ◌≤◌, ◌<◌}
use native.Mathlib.Nat.{lt_of_lt_of_le}
use native.Mathlib.Omega.{arith}
use lib.ListN.{length, get_or, drop, length-drop}
use lib.Pow.{pow_mono}
use Rattle.counting.specs.Block.{place_in, bin_of}
use Rattle.counting.specs.Words.{stored_bit}
use Rattle.counting.proofs.Counts.{bin_lt, bin_drop}
use Rattle.counting.proofs.Lanes.{bit_lt}
use Rattle.sampling.specs.Carrying.{stored_byte}
use Rattle.sampling.proofs.Lifting.{eight, nth}
use Rattle.sampling.proofs.carrying.Lane.byte.Goals.{At-loop-i}
use Rattle.sampling.proofs.carrying.Lane.byte.Goals as goal

stored_small : (S : ℕ) (ws : List ℕ) (e b : ℕ) → stored_bit S ws e b < 2
unfolding stored_bit
stored_small S ws e b = bit_lt (get_or ws (b * S + e / 64) 0) (e % 64)

abbrev bit : At-loop-i → ℕ → ℕ
bit l r = let a = l.args in stored_bit a.self.stride a.words.now a.self.block (8 * a.j + place_in a.self.low_first r)

-- before the last bit there are at most seven
small : (l : At-loop-i) → 0 < l.loop-i.i → l.loop-i.x < 128
small l some =
    let i = l.loop-i.i in
    let a = l.args in
    let few : length (drop i eight) ≤ 7 = rw (length-drop i eight) (omega arith) in
    rw l.loop-i.invariant
    (lt_of_lt_of_le (bin_lt (bit l) (λ r. stored_small a.self.stride a.words.now a.self.block (8 * a.j + place_in a.self.low_first r)) (drop i eight)) (pow_mono few))

pub loop-i-init : goal.loop-i-init
unfolding bin_of
loop-i-init c = refl

pub overflow_mul-x : goal.overflow_mul-x
overflow_mul-x c = omega (arith, small (goal.at.overflow_mul-x c).At-loop-i c.loop-i-test.true)

pub overflow_add-x : goal.overflow_add-x
overflow_add-x c =
    let a = c.args in
    omega (arith, small (goal.at.overflow_add-x c).At-loop-i c.loop-i-test.true, c.bit.ensures, stored_small a.self.stride a.words.now a.self.block (8 * a.j + c.place_in.result))

pub loop-i-preserved : goal.loop-i-preserved
loop-i-preserved c =
    let a = c.args in
    let l = (goal.at.loop-i-preserved c).At-loop-i in
    let i = c.loop-i.i in
    let some : 0 < i = c.loop-i-test.true in
    let room : i ≤ length eight = omega arith in
    let more = bin_drop (bit l) eight i some room in
    let last : get_or eight (i - 1) 0 ≡ i - 1 = nth (i - 1) (omega arith) in
    let new : c.bit.result ≡ bit l (get_or eight (i - 1) 0) =
    c.bit.ensures ∙ ap (λ (p : ℕ). stored_bit a.self.stride a.words.now a.self.block (8 * a.j + p)) c.place_in.ensures.0 ∙ ap (bit l) (sym last) in
    omega (arith, more, c.loop-i.invariant, new)

pub returns : goal.returns
unfolding stored_byte
returns c =
    let past : c.loop-i.i ≡ 0 = omega arith in
    c.loop-i.invariant ∙ ap (λ (i : ℕ). bin_of (bit (goal.at.returns c).At-loop-i) (drop i eight)) past
