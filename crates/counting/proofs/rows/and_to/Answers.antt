-- `rows::and_to` meets its contract: word by word up to the row's end.
use mathlib.Core.Path.{refl}
use lib.ListN.{length-set}
use Rattle.counting.specs.Tally.{word_at, word_with}
use Rattle.counting.proofs.Marks.{stored_more}
use native.Mathlib.Omega.{arith}
use Rattle.counting.proofs.rows.and_to.Goals as goal

pub loop-t-preserved : goal.loop-t-preserved
unfolding word_with
loop-t-preserved c =
    let now = c.loop-t in
    let a = c.args in
    (omega arith, simp length-set now.invariant.1, stored_more (word_with (word_at a.acc.now) a.row.now a.flip) a.to.now now.t now.to _ (omega arith) refl now.invariant.2)
