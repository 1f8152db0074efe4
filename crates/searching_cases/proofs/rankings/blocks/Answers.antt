-- `rankings::blocks` meets its contract: the sum so far.
use native.Mathlib.Omega.{arith}
use mathlib.Core.Path.{refl, sym, ap, ◌∙◌}
use Prim.Native.Nat.{ℕ, ◌+◌}
use native.Mathlib.Numerals.{add-one}
use lib.ListN.{get_or}
use Rattle.counting.specs.Sample.{total}
use Rattle.ranking.proofs.Totals.{total_more}
use Rattle.searching_cases.proofs.rankings.blocks.Goals as goal

pub loop-count-init : goal.loop-count-init
unfolding total
loop-count-init c = refl

pub loop-count-preserved : goal.loop-count-preserved
loop-count-preserved c =
    let at = c.loop-count in
    let bins = c.args.bins.now in
    rw add-one (c.in_ok-n.ensures.1 ∙ ap (λ (x : ℕ). x + get_or bins at.count-index 0) at.invariant ∙ sym (total_more bins at.count-index (omega arith)))
