-- `split::first_part` meets its contract: past the refusal the part lies within the raw bytes.
use mathlib.Core.Path.{◌≡◌, sym, ◌∙◌}
use mathlib.Core.Bool.{false}
use Prim.Native.Nat.{◌*◌, ◌≤◌}
use native.Mathlib.Omega.{arith}
use lib.Dec.{eqb}
use lib.ListN.{length}
use lib.Seq.{length-take-le}
use borrow.Author.Tests.{ne_eqb}
use Rattle.counting.specs.Recording.{blocks_in, block_bytes}
use Rattle.judging.specs.Split.{split_refusal, first_blocks, first_part}
use Rattle.judging.proofs.Splitting.{no_refusal, some_refusal, splits, first_ends, blocks_end}
use Rattle.judging.proofs.split.first_part.Goals.{After-first_blocks, Else-is_err}
use Rattle.judging.proofs.split.first_part.Goals as goal

-- past the refusal
fine : (c : Else-is_err) → let s = c.args in split_refusal s.raw.now s.block_size ≡ 0
fine c = no_refusal _ _ c.split_refusal.ensures (sym c.is_err.ensures.value ∙ c.if-is_err.false)

-- the part's end, within the raw bytes
ends : (c : After-first_blocks) → let s = c.args in c.first_blocks.result * block_bytes s.block_size ≤ length s.raw.now
ends c =
    let s = c.args in
    let m = blocks_in s.block_size s.raw.now in
    let is : c.first_blocks.result ≡ first_blocks m s.training = c.first_blocks.ensures in
    rw is (omega (arith, first_ends m s.training (block_bytes s.block_size), blocks_end s.raw.now s.block_size))

pub returns-then-is_err : goal.returns-then-is_err
unfolding first_part
returns-then-is_err c =
    let s = c.args in
    let no : eqb (split_refusal s.raw.now s.block_size) 0 ≡ false = ne_eqb _ _ (some_refusal _ _ c.split_refusal.ensures (sym c.is_err.ensures.value ∙ c.if-is_err.true)) in
    simp no

pub nonzero_div-raw : goal.nonzero_div-raw
nonzero_div-raw c = omega (arith, (splits _ _ (fine c)).valid)

pub overflow_mul-end : goal.overflow_mul-end
overflow_mul-end c = omega (arith, ends c, c.well_formed)

pub slice_bounds-result-end-2 : goal.slice_bounds-result-end-2
slice_bounds-result-end-2 c = sym (length-take-le _ _ (ends c))

pub returns : goal.returns
unfolding first_part
returns c =
    simp (fine (goal.at.returns c).Else-is_err, c.first_blocks.ensures)
