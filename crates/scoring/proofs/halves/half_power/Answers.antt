-- `halves::half_power` meets its contract: the code's table is `half_powers`, entry by entry, and that holds the powers of one half.
use lib.Ieee.{of_bits}
use borrow.Author.Rules.{rules}
use Rattle.scoring.specs.Halves.{half_powers}
use Rattle.scoring.proofs.Halving.{table_halves, entry}
use Rattle.scoring.proofs.halves.half_power.Goals as goal

pub returns : goal.returns
unfolding of_bits half_powers
returns c = entry table_halves c.args.k (search rules)
