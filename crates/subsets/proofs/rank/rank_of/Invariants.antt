-- `rank::rank_of` meets its contract. The loop's invariant: `Placing`.
use Rattle.subsets.proofs.Placing.{Placing}
use Rattle.subsets.proofs.rank.rank_of.Given as goal

abbrev pub invariant-loop-j : goal.invariant-loop-j
invariant-loop-j l = Placing l.block_size l.bits l.result l.j
