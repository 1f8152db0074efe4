-- `putting::Layout::put_byte` meets its contract: after r turns the words are those with r bits put in.
use mathlib.Core.Path.{◌≡◌, refl, sym, ap, ◌∙◌}
use Prim.Native.Nat.{◌+◌, ◌*◌}
use Rattle.counting.specs.Block.{bit_at, place_in}
use Rattle.sampling.specs.Putting.{put_bit, put_bits}
use Rattle.sampling.proofs.Filling.{put_bits_next}
use Rattle.sampling.proofs.putting.Layout.put_byte.Goals as goal

pub loop-r-init : goal.loop-r-init
unfolding put_bits
loop-r-init c = refl

pub loop-r-preserved : goal.loop-r-preserved
loop-r-preserved c =
    let a = c.args in
    let r = c.loop-r.r in
    let new : c.from.result ≡ bit_at a.x (place_in a.self.low_first r) = c.from.ensures ∙ ap (bit_at a.x) c.place_in.ensures.0 in
    c.put_bit.ensures
    ∙ (λ j. put_bit (c.loop-r.invariant j) (a.at + r * a.self.stride) a.k (new j))
    ∙ sym (put_bits_next a.self.low_first a.self.stride a.words.now a.at a.k a.x r)
