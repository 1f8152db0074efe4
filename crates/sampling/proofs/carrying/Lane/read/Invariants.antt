-- `carrying::Lane::read` meets its contract: after j turns the first j bytes stand in front.
use mathlib.Core.Path.{◌≡◌}
use Rattle.counting.specs.Buffer.{put}
use Rattle.counting.specs.Sample.{list_of}
use Rattle.sampling.specs.Carrying.{stored_byte}
use Rattle.sampling.proofs.carrying.Lane.read.Given as goal

abbrev pub invariant-loop-j : goal.invariant-loop-j
invariant-loop-j l = l.to ≡ put l.initial.to 0 (list_of l.j (stored_byte l.self.low_first l.self.stride l.words l.self.block))
