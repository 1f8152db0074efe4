-- `bins::join_bins` meets its contract: entry by entry.
use Prim.Native.Nat.{◌+◌}
use mathlib.Core.Path.{refl, ◌∙◌}
use native.Mathlib.Omega.{arith}
use native.Mathlib.Nat.{le_refl}
use lib.ListN.{get_or, length-set}
use lib.Seq.{drop-set-lt}
use Rattle.counting.proofs.Marks.{stored_none, stored_more}
use borrow.Author.Rules.{rules}
use Rattle.layers.proofs.bins.join_bins.Goals as goal

pub loop-v-init : goal.loop-v-init
loop-v-init c = (search rules, refl, refl, stored_none _ c.args.bins.now)

pub loop-v-preserved : goal.loop-v-preserved
loop-v-preserved c =
    let a = c.args in
    let rest = c.loop-v.invariant.3.1 in (
      omega arith,
      simp length-set c.loop-v.invariant.1,
      drop-set-lt a.half c.loop-v.bins c.loop-v.v _ c.loop-v-test.true ∙ c.loop-v.invariant.2,
      stored_more (λ u. get_or a.bins.now u 0 + get_or a.bins.now (a.half + u) 0) a.bins.now c.loop-v.v c.loop-v.bins _ (omega arith)
          (omega (arith, rest c.loop-v.v (le_refl c.loop-v.v), rest (a.half + c.loop-v.v) (omega arith)))
          c.loop-v.invariant.3,
    )

pub returns : goal.returns
returns c = record { by_index_2 = λ v h. c.loop-v.invariant.3.0 v (omega arith); bins_unchanged = c.loop-v.invariant.2 }
