-- `cursor::skip_space` meets its contract: what is left leads where all leads.
use Rattle.std.proofs.Common.{◌≡◌, length}
use Rattle.exchange.specs.Reader.{skip}
use Rattle.exchange.proofs.cursor.skip_space.Given as goal

abbrev pub invariant-loop-left : goal.invariant-loop-left
invariant-loop-left l = skip l.left ≡ skip l.s

abbrev pub decreases-loop-left : goal.decreases-loop-left
decreases-loop-left l = length l.left
