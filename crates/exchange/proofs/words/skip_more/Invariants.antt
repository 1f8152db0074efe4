-- `words::skip_more` meets its contract: what is left leads where all leads, whatever the number so far.
use Rattle.std.proofs.Common.{◌≡◌, length}
use Rattle.exchange.specs.Reader.{read_digits}
use Rattle.exchange.proofs.words.skip_more.Given as goal

abbrev pub invariant-loop-left : goal.invariant-loop-left
invariant-loop-left l = (read_digits 0 l.left).1 ≡ (read_digits 0 l.s).1

abbrev pub decreases-loop-left : goal.decreases-loop-left
decreases-loop-left l = length l.left
