-- `putting::put_bit` meets its contract: a store that is the definition's.
use mathlib.Core.Path.{ap}
use Prim.Native.Nat.{ℕ}
use native.Mathlib.Omega.{arith}
use lib.Pow.{shl_exact}
use lib.ListN.{get_or, set}
use lib.Bits.{bit_or}
use Rattle.sampling.specs.Putting.{put_bit}
use Rattle.sampling.proofs.putting.put_bit.Goals as goal

pub returns : goal.returns
unfolding put_bit
returns c =
    let a = c.args in
    ap (λ (n : ℕ). set a.words.now a.i (bit_or (get_or a.words.now a.i 0) n)) (shl_exact 1 a.k 64 c.requires.v_bound (omega arith))
