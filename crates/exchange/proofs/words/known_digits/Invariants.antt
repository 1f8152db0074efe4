-- `words::known_digits` meets its contract: what is left leads where all leads.
use Rattle.std.proofs.Common.{◌≡◌, length}
use Rattle.exchange.specs.Reader.{read_digits}
use Rattle.exchange.proofs.words.known_digits.Given as goal

abbrev pub invariant-loop-left : goal.invariant-loop-left
invariant-loop-left l = read_digits l.n l.left ≡ read_digits l.first l.s

abbrev pub decreases-loop-left : goal.decreases-loop-left
decreases-loop-left l = length l.left
