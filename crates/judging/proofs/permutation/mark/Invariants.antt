-- `permutation::mark` meets its contract. The invariant: the entries gone over pass the test, and the marks are theirs.
use lib.ListN.{length}
use Rattle.std.specs.Iterator.Adapters.{rev_source}
use Rattle.std.specs.Slice.Iter.{iter_rest}
use Rattle.judging.proofs.Marking.{Passed}
use Rattle.judging.proofs.permutation.mark.Given as goal

abbrev pub invariant-loop-bin : goal.invariant-loop-bin
invariant-loop-bin l = Passed l.order (length l.initial.seen) (iter_rest (rev_source l.bin-iterator)) l.seen
