-- `carrying::clear_bit` meets its contract: the bit that is there, moved to its place, is taken out.
use mathlib.Core.Path.{ap}
use Prim.Native.Nat.{ℕ}
use native.Mathlib.Omega.{arith}
use lib.Bits.{bit_xor}
use lib.ListN.{get_or, set}
use lib.Pow.{shl_exact}
use Rattle.counting.proofs.Lanes.{bit_lt}
use Rattle.sampling.specs.Carrying.{clear_bit}
use Rattle.sampling.proofs.carrying.clear_bit.Goals as goal

pub returns : goal.returns
unfolding clear_bit
returns c =
    let a = c.args in
    ap (λ (n : ℕ). set a.words.now a.i (bit_xor (get_or a.words.now a.i 0) n)) (shl_exact 1 a.k 64 (bit_lt (get_or a.words.now a.i 0) a.k) (omega arith))
