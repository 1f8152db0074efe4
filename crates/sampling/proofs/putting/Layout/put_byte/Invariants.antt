-- `putting::Layout::put_byte` meets its contract: after r turns the words are those with r bits put in.
use mathlib.Core.Path.{◌≡◌}
use Rattle.sampling.specs.Putting.{put_bits}
use Rattle.sampling.proofs.putting.Layout.put_byte.Given as goal

abbrev pub invariant-loop-r : goal.invariant-loop-r
invariant-loop-r l = l.words ≡ put_bits l.self.low_first l.self.stride l.initial.words l.at l.k l.x l.r
