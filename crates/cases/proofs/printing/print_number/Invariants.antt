-- `printing::print_number` is safe: what it writes begins in the array.
use Rattle.std.proofs.Common.{◌≤◌}
use Rattle.cases.proofs.printing.print_number.Given as goal

abbrev pub invariant-loop-place : goal.invariant-loop-place
invariant-loop-place g l = l.start ≤ 20
