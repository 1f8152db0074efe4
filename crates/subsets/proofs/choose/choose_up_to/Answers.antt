-- `choose::choose_up_to` meets its contract: past its row a binomial is 0, and the row's halves are alike.
use Rattle.subsets.proofs.Choosing.{past_row, either_half}
use Rattle.subsets.proofs.choose.choose_up_to.Goals as goal

pub returns-then-r-n : goal.returns-then-r-n
returns-then-r-n c = past_row c.args.n c.args.r c.if-r-n.true

pub returns : goal.returns
returns c = either_half c.args.n c.args.r c.min.result c.choose_lower.result c.if-r-n.false c.min.ensures c.choose_lower.ensures
