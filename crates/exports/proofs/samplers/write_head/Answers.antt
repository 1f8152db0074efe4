-- `samplers::write_head` meets its contract: four stores, and the four lengths behind them.
use mathlib.Core.Path.{◌≡◌, ap, ◌∙◌}
use mathlib.Core.List.{◌∷◌}
use Prim.Native.Nat.{ℕ}
use native.Mathlib.Omega.{arith}
use lib.ListN.{length, length-set}
use Rattle.exports.specs.Records.{written}
use Rattle.exports.proofs.Writing.{four}
use borrow.Author.Rules.{rules}
use Rattle.exports.proofs.samplers.write_head.Goals.{Start}
use Rattle.exports.proofs.samplers.write_head.Goals as goal

-- how many lengths there are
boards : (s : Start) → length s.args.head.lengths ≡ 4
boards s = search rules

pub bounds-numbers-1 : goal.bounds-numbers-1
bounds-numbers-1 c = simp length-set (omega arith)

pub bounds-numbers-2 : goal.bounds-numbers-2
bounds-numbers-2 c = simp length-set (omega arith)

pub bounds-numbers-3 : goal.bounds-numbers-3
bounds-numbers-3 c = simp length-set (omega arith)

pub write_sizes-requires : goal.write_sizes-requires
write_sizes-requires c =
    simp length-set (omega (arith, c.requires, boards (goal.at.write_sizes-requires c).Start))

pub shape_of-numbers : goal.shape_of-numbers
shape_of-numbers c =
    c.write_sizes.auto.numbers ∙ simp length-set

pub returns : goal.returns
returns c =
    let f = c.args.head in
    c.write_sizes.ensures
    ∙ four c.args.numbers.now f.lengths f.block_size f.words f.blocks c.order_number.result (omega (arith, c.requires))
    ∙ ap (λ (n : ℕ). written (f.block_size ∷ f.words ∷ f.blocks ∷ n ∷ f.lengths) c.args.numbers.now) c.order_number.ensures
