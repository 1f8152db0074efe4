-- `words::skip_any` meets its contract.
use Rattle.std.proofs.Common.{arith}
use Rattle.exchange.proofs.Shortcut.{word_few}
use Rattle.exchange.proofs.words.skip_any.Goals as goal

pub returns-then-more-left : goal.returns-then-more-left
returns-then-more-left c =
    word_few c.args.s.now c.skip_space.result.now c.skip_space.ensures (omega arith) (omega arith) (omega arith) c.skip_more-left.result.now c.skip_more-left.ensures
    c.if-more-left.true
