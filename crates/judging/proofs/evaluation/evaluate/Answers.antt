-- `evaluation::evaluate` meets its contract: the counts of the blocks, and the sum of the first of them in the order.
use mathlib.Core.Path.{sym, ap, ◌∙◌, subst}
use Prim.Native.Nat.{ℕ, ◌^◌}
use native.Mathlib.Omega.{arith}
use lib.ListN.{length}
use Rattle.counting.specs.Recording.{recorded_bit}
use Rattle.counting.specs.Sample.{total}
use Rattle.counting.proofs.Counts.{counts_add_up}
use Rattle.searching.proofs.Filled.{length_counts}
use Rattle.judging.specs.Check.{chosen}
use Rattle.judging.specs.Permutation.{Permutation}
use Rattle.judging.specs.Evaluation.{testing_blocks}
use Rattle.judging.proofs.Evaluating.{recorded_small}
use Rattle.judging.proofs.evaluation.evaluate.Goals.{Start}
use Rattle.judging.proofs.evaluation.evaluate.Goals as goal

pub sum_first-requires : goal.sum_first-requires
sum_first-requires c =
    let f = c.args.finding in
    let bit = recorded_bit f.block_size f.low_first c.args.bytes.now in
    let n = testing_blocks f c.args.bytes.now in
    let is = c.count_blocks.ensures in
    let long = ap length is ∙ length_counts bit n (chosen f) ∙ ap (λ (k : ℕ). 2 ^ k) c.requires.finding_len.0 in
    let sum = ap total is ∙ counts_add_up n bit (recorded_small f.block_size f.low_first c.args.bytes.now) (chosen f) in
    record {
      permutation = subst (λ (m : ℕ). Permutation m c.args.order.now) (sym long) c.requires.finding_len.1;
      division_in_bounds = (c.requires.finding_len.2, omega (arith, sum, c.requires.countable_data.blocks));
    }
