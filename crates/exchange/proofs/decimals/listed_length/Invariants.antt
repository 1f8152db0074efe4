-- `decimals::listed_length` meets its contract: what is left of the numbers, less its commas, leads to the whole.
use Rattle.std.proofs.Common.{◌≡◌, ◌+◌, ◌-◌, length, drop}
use Rattle.exchange.specs.Writer.{behind, listed}
use Rattle.exchange.proofs.decimals.listed_length.Given as goal

abbrev pub invariant-loop-n : goal.invariant-loop-n
invariant-loop-n l = l.sum + length (behind (drop l.n-index l.ns)) ≡ length (listed l.ns) + (length l.ns - l.n-index)
