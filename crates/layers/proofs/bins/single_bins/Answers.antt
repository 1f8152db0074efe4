-- `bins::single_bins` meets its contract: two entries are written.
use Rattle.layers.proofs.Pairing.{two_set}
use Rattle.layers.proofs.bins.single_bins.Goals as goal

pub returns : goal.returns
returns c = two_set c.args.n c.args.count c.args.bins.now c.requires.0
