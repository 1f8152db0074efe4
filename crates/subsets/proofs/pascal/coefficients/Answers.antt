-- `pascal::coefficients` meets its contract: the test passes, computed over the code's own table.
use Rattle.subsets.proofs.Tabling.{pascal}
use Rattle.subsets.proofs.pascal.coefficients.Goals as goal

pub returns : goal.returns
returns c = pascal 512 _ tt
