-- `evaluation::count_blocks` meets its contract: before turn e the bins are the counts of the first e blocks.
use mathlib.Core.Path.{◌∙◌, refl}
use Prim.Native.Nat.{◌/◌, ◌≤◌, ◌<◌}
use native.Mathlib.Omega.{arith}
use lib.ListN.{get_or}
use Rattle.counting.specs.Recording.{blocks_in, recorded_bit}
use Rattle.counting.proofs.Accepted.{Valid, valid_facts}
use Rattle.judging.proofs.Tallying.{counts_none, counts_more, counts_small, block_length, block_bin}
use Rattle.judging.proofs.evaluation.count_blocks.Goals.{Start}
use Rattle.judging.proofs.evaluation.count_blocks.Goals as goal

sized : (s : Start) → Valid s.args.block_size
sized s = valid_facts s.args.block_size s.requires.countable_data.valid

pub nonzero_div-n : goal.nonzero_div-n
nonzero_div-n c = omega (arith, sized (goal.at.nonzero_div-n c).Start)

pub loop-e-init : goal.loop-e-init
loop-e-init c = c.requires.bins_value ∙ counts_none (recorded_bit c.args.block_size c.args.low_first c.args.bytes.now) c.args.bits.now

pub bits_block_eval-v-requires-clause-by_index : goal.bits_block_eval-v-requires-clause-by_index
bits_block_eval-v-requires-clause-by_index c i h =
    let a = c.args in
    let below : get_or a.bits.now i 0 < a.block_size = c.requires.countable_data.within i h in
    omega (arith, below, block_length (a.block_size / 8) c.loop-e.e a.bytes.now c.loop-e-test.true, sized (goal.at.bits_block_eval-v-requires-clause-by_index c).Start)

pub overflow_add-bins : goal.overflow_add-bins
overflow_add-bins c =
    let a = c.args in
    let few : blocks_in a.block_size a.bytes.now ≤ 16777216 = c.requires.countable_data.blocks in
    omega (arith, few, c.loop-e-test.true, counts_small (recorded_bit a.block_size a.low_first a.bytes.now) c.loop-e.e a.bits.now c.loop-e.bins c.bits_block_eval-v.result c.loop-e.invariant c.bits_block_eval-v.ensures.1)

pub loop-e-preserved : goal.loop-e-preserved
loop-e-preserved c =
    let a = c.args in
    counts_more (recorded_bit a.block_size a.low_first a.bytes.now) c.loop-e.e a.bits.now c.loop-e.bins c.bits_block_eval-v.result _ c.loop-e.invariant
    (c.bits_block_eval-v.ensures.0 ∙ block_bin a.block_size a.low_first c.loop-e.e a.bits.now a.bytes.now) c.bits_block_eval-v.ensures.1 refl
