-- `block::place_in` meets its contract: each branch is the definition's for its bit order.
use mathlib.Core.Path.{refl}
use native.Mathlib.Omega.{arith}
use borrow.Author.Rules.{rules}
use Rattle.counting.specs.Block.{place_in}
use Rattle.counting.proofs.block.place_in.Goals as goal

pub returns-then-low_first : goal.returns-then-low_first
unfolding place_in
returns-then-low_first c = search rules

pub returns-else-low_first : goal.returns-else-low_first
unfolding place_in
returns-else-low_first c = simp c.if-low_first.false (refl, omega arith)
