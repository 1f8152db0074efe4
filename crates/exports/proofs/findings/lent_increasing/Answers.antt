-- `findings::lent_increasing` meets its contract.
use lib.Dec.{ltb}
use Rattle.std.proofs.Common.{rules, tests}
use Rattle.std.proofs.lemmas.Fn.{always_returns_same}
use Rattle.subsets.proofs.Testing.{increasing_by_pairs}
use Rattle.exports.proofs.findings.lent_increasing.Goals as goal

pub returns : goal.returns
returns c =
    increasing_by_pairs c.args.bits.now c.is_sorted_by.result
    (c.is_sorted_by.ensures.cases ltb (always_returns_same _ _ _ (λ a r f k. search (rules, tests))))
