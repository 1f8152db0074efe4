-- `split::second_part` meets its contract: past the refusal the part goes from the end of the first one to that of the whole blocks.
use mathlib.Core.Path.{◌≡◌, sym, ◌∙◌}
use mathlib.Core.Bool.{false}
use Prim.Native.Nat.{◌*◌, ◌≤◌}
use native.Mathlib.Omega.{arith}
use lib.Dec.{eqb}
use lib.ListN.{length}
use borrow.Author.Tests.{ne_eqb}
use Rattle.counting.specs.Recording.{blocks_in, block_bytes}
use Rattle.judging.specs.Split.{split_refusal, first_blocks, second_part}
use Rattle.judging.proofs.Splitting.{no_refusal, some_refusal, splits, first_within, first_ends, blocks_end, rest_bytes}
use Rattle.judging.proofs.split.second_part.Goals.{After-first_blocks, Else-is_err}
use Rattle.judging.proofs.split.second_part.Goals as goal

-- past the refusal
fine : (c : Else-is_err) → let s = c.args in split_refusal s.raw.now s.block_size ≡ 0
fine c = no_refusal _ _ c.split_refusal.ensures (sym c.is_err.ensures.value ∙ c.if-is_err.false)

-- the part's start and end
starts : (c : After-first_blocks) → let s = c.args in c.first_blocks.result * block_bytes s.block_size ≤ blocks_in s.block_size s.raw.now * block_bytes s.block_size
starts c =
    let s = c.args in
    let m = blocks_in s.block_size s.raw.now in
    let is : c.first_blocks.result ≡ first_blocks m s.training = c.first_blocks.ensures in
    rw is (first_ends m s.training (block_bytes s.block_size))

ends : (c : After-first_blocks) → let s = c.args in blocks_in s.block_size s.raw.now * block_bytes s.block_size ≤ length s.raw.now
ends c = let s = c.args in blocks_end s.raw.now s.block_size

pub returns-then-is_err : goal.returns-then-is_err
unfolding second_part
returns-then-is_err c =
    let s = c.args in
    let no : eqb (split_refusal s.raw.now s.block_size) 0 ≡ false = ne_eqb _ _ (some_refusal _ _ c.split_refusal.ensures (sym c.is_err.ensures.value ∙ c.if-is_err.true)) in
    simp no

pub nonzero_div-blocks : goal.nonzero_div-blocks
nonzero_div-blocks c = omega (arith, (splits _ _ (fine c)).valid)

pub overflow_mul-start : goal.overflow_mul-start
overflow_mul-start c = omega (arith, starts c, ends c, c.well_formed)

pub slice_bounds-result-count : goal.slice_bounds-result-count
slice_bounds-result-count c = starts c

pub slice_bounds-result-start : goal.slice_bounds-result-start
slice_bounds-result-start c = starts c

pub returns : goal.returns
unfolding second_part
returns c =
    let s = c.args in
    let m = blocks_in s.block_size s.raw.now in
    simp (fine (goal.at.returns c).Else-is_err, c.first_blocks.ensures, rest_bytes m (first_blocks m s.training) (block_bytes s.block_size) (first_within m s.training))
