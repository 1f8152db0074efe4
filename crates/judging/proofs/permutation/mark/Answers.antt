-- `permutation::mark` meets its contract. The invariant: the entries gone over pass the test, and the marks are theirs.
use mathlib.Core.Path.{◌≡◌}
use Rattle.std.specs.Iterator.Adapters.{rev_source}
use Rattle.std.specs.Slice.Iter.{iter_rest}
use Rattle.judging.proofs.Marking.{none_passed, outside, again, turn}
use Rattle.judging.proofs.permutation.mark.Goals.{then-v-seen-via-then-v-seen, then-v-seen-via-else-v-seen+then-seen-v-ne0}
use Rattle.judging.proofs.permutation.mark.Goals as goal

pub loop-bin-init : goal.loop-bin-init
loop-bin-init c =
    let whole : iter_rest (rev_source c.into_iter-bin-iterator.result) ≡ c.args.order.now = cc in
    rw whole (none_passed c.args.order.now c.args.seen.now c.requires)

pub returns-then-v-seen : goal.returns-then-v-seen
returns-then-v-seen c = elim c.then-v-seen.branch [
  | then-v-seen-via-then-v-seen w ↦ outside _ _ _ _ _ _ c.loop-bin.invariant c.in-Some.ensures.steps w.if-v-seen.true
  | then-v-seen-via-else-v-seen+then-seen-v-ne0 w ↦ again _ _ _ _ _ _ c.loop-bin.invariant c.in-Some.ensures.steps w.if-v-seen.false w.if-seen-v-ne0.true
]

pub loop-bin-preserved : goal.loop-bin-preserved
loop-bin-preserved c = turn _ _ _ _ _ _ c.loop-bin.invariant c.in-Some.ensures.steps c.if-v-seen.false c.if-seen-v-ne0.false
