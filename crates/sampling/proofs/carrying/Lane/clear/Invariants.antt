-- `carrying::Lane::clear` meets its contract: after b turns the first b bits of the block are cleared.
use mathlib.Core.Path.{◌≡◌}
use Rattle.sampling.specs.Carrying.{clear_bits}
use Rattle.sampling.proofs.carrying.Lane.clear.Given as goal

abbrev pub invariant-loop-b : goal.invariant-loop-b
invariant-loop-b l = l.words ≡ clear_bits l.self.stride l.initial.words l.self.block l.b
