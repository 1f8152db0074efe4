-- `words::skip_more` meets its contract: what is left leads where all leads, whatever the number so far.
use Rattle.std.proofs.Common.{◌∙◌, arith}
use Rattle.exchange.proofs.Shortcut.{is_one}
use Rattle.exchange.proofs.Stepping.{digit_next}
use Rattle.exchange.proofs.words.skip_more.Goals as goal

pub loop-left-preserved : goal.loop-left-preserved
loop-left-preserved c = digit_next c.loop-left.left.now (omega arith) (is_one _ (omega arith) (omega arith)) ∙ c.loop-left.invariant
