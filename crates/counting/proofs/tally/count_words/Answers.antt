-- `tally::count_words` meets its contract: the words passed.
use mathlib.Core.Path.{◌≡◌, ap, refl}
use native.Mathlib.Numerals.{add-one}
use lib.Count.{ones}
use Rattle.counting.specs.Sample.{sum_to}
use native.Mathlib.Omega.{arith}
use borrow.Author.Rules.{rules}
use Rattle.counting.proofs.tally.count_words.Goals as goal

pub loop-t-init : goal.loop-t-init
unfolding sum_to
loop-t-init c = (search rules, refl, search rules)

pub loop-t-preserved : goal.loop-t-preserved
unfolding sum_to
loop-t-preserved c =
    let at = c.loop-t in (
      omega arith,
      rw add-one (omega (arith, at.invariant.1, c.ones_of-sum.ensures.0, ap ones c.word.ensures)),
      omega arith,
    )

pub returns : goal.returns
returns c =
    let at = c.loop-t in
    let e : at.t ≡ c.args.m = omega arith in
    (rw (← e) at.invariant.1, omega arith)
