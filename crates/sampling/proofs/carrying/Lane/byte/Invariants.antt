-- `carrying::Lane::byte` meets its contract: from the highest bit down, x is the number that the bits passed make.
use mathlib.Core.Path.{◌≡◌}
use Prim.Native.Nat.{◌+◌, ◌*◌}
use lib.ListN.{drop}
use Rattle.counting.specs.Block.{place_in, bin_of}
use Rattle.counting.specs.Words.{stored_bit}
use Rattle.sampling.proofs.Lifting.{eight}
use Rattle.sampling.proofs.carrying.Lane.byte.Given as goal

abbrev pub invariant-loop-i : goal.invariant-loop-i
invariant-loop-i l = l.x ≡ bin_of (λ r. stored_bit l.self.stride l.words l.self.block (8 * l.j + place_in l.self.low_first r)) (drop l.i eight)
