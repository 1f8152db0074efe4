-- `buffer::copy` meets its contract: the first entries are copied.
use Rattle.std.proofs.Common.{◌≡◌, length, take}
use Rattle.counting.proofs.buffer.copy.Given as goal

abbrev pub invariant-loop-i : goal.invariant-loop-i
invariant-loop-i g l = (length l.to ≡ length l.initial.to) × (take l.i l.to ≡ take l.i l.from)
