-- `bins::pair_bins` meets its contract: four entries are written.
use native.Mathlib.Omega.{arith}
use lib.ListN.{length-set}
use Rattle.layers.proofs.Pairing.{four_set}
use Rattle.layers.proofs.bins.pair_bins.Goals as goal

pub bounds-bins-1 : goal.bounds-bins-1
bounds-bins-1 c = simp length-set (omega (arith, c.requires.0))

pub bounds-bins-2 : goal.bounds-bins-2
bounds-bins-2 c = simp length-set (omega (arith, c.requires.0))

pub returns : goal.returns
returns c = four_set c.args.n c.args.first c.args.second c.args.count c.args.bins.now c.requires.0
