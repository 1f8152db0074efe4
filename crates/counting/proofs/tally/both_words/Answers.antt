-- `tally::both_words` meets its contract: the words passed.
use mathlib.Core.Path.{◌≡◌, ap, refl}
use native.Mathlib.Numerals.{add-one}
use lib.Count.{ones}
use Rattle.counting.specs.Sample.{sum_to}
use Rattle.counting.specs.Tally.{word_at, word_with}
use Rattle.counting.proofs.Tallying.{anded_word}
use native.Mathlib.Omega.{arith}
use borrow.Author.Rules.{rules}
use Rattle.counting.proofs.tally.both_words.Goals as goal

pub loop-t-init : goal.loop-t-init
unfolding sum_to
loop-t-init c = (search rules, (refl, search rules), (refl, search rules))

pub loop-t-preserved : goal.loop-t-preserved
unfolding sum_to
loop-t-preserved c =
    let at = c.loop-t in
    let a = c.args in
    let w = c.word-w in
    let words = word_with (word_at a.acc.now) a.high.now a.flip in (
      omega arith,
      (
        rw add-one (omega (arith, at.invariant.1.0, c.ones_of-without.ensures.0, ap ones (anded_word words a.low.now 18446744073709551615 at.t _ _ w.ensures c.anded.ensures))),
        omega arith,
      ),
      (
        rw add-one (omega (arith, at.invariant.2.0, c.ones_of-with.ensures.0, ap ones (anded_word words a.low.now 0 at.t _ _ w.ensures c.anded-in-loop-t.ensures))),
        omega arith,
      ),
    )

pub returns : goal.returns
returns c =
    let at = c.loop-t in
    let e : at.t ≡ c.args.m = omega arith in
    record { without_value = rw (← e) at.invariant.1; with_value = rw (← e) at.invariant.2 }
