-- `carrying::Lane::clear` meets its contract: after b turns the first b bits of the block are cleared.
use mathlib.Core.Path.{refl, sym, ap, ◌∙◌}
use Prim.Native.Nat.{◌+◌, ◌*◌, ◌/◌, ◌%◌}
use native.Mathlib.Numerals.{add-one}
use Rattle.sampling.specs.Carrying.{clear_bit, clear_bits}
use Rattle.sampling.proofs.carrying.Lane.clear.Goals as goal

pub loop-b-init : goal.loop-b-init
unfolding clear_bits
loop-b-init c = refl

pub loop-b-preserved : goal.loop-b-preserved
unfolding clear_bits
loop-b-preserved c =
    let a = c.args in
    let b = c.loop-b.b in
    c.clear_bit.ensures
    ∙ ap (λ ws. clear_bit ws (b * a.self.stride + a.self.block / 64) (a.self.block % 64)) c.loop-b.invariant
    ∙ sym (ap (clear_bits a.self.stride a.words.now a.self.block) (add-one b))
