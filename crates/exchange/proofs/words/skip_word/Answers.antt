-- `words::skip_word` meets its contract.
use Rattle.std.proofs.Common.{sym, ◌∙◌, arith}
use Rattle.exchange.proofs.Shortcut.{five_word}
use Rattle.exchange.proofs.words.skip_word.Goals as goal

pub returns : goal.returns
returns c =
    five_word c.args.s.now (omega arith) (omega arith) (omega arith) (omega arith) (omega arith) (omega arith) (omega arith) (omega arith) (omega arith) (omega arith) (omega arith)
    (sym c.digit_first.ensures ∙ c.if-not-digit_first.true)
