-- `tally::word` meets its contract.
use Rattle.counting.specs.Tally.{word_with}
use Rattle.counting.proofs.tally.word.Goals as goal

pub returns : goal.returns
unfolding word_with
returns c = c.anded.ensures
