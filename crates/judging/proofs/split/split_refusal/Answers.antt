-- `split::split_refusal` meets its contract: each return rewrites with the tests that led there.
use mathlib.Core.Path.{◌≡◌, sym, ◌∙◌}
use mathlib.Core.Bool.{true}
use native.Mathlib.Omega.{arith}
use borrow.Author.Tests.{le-leb, lt-leb}
use Rattle.counting.specs.Block.{valid_size}
use Rattle.counting.proofs.Accepted.{valid_facts}
use Rattle.judging.specs.Split.{split_refusal}
use Rattle.judging.proofs.split.split_refusal.Goals.{Else-not-valid_block_size}
use Rattle.judging.proofs.split.split_refusal.Goals as goal

size_ok : (c : Else-not-valid_block_size) → valid_size c.args.block_size ≡ true
size_ok c = sym c.valid_block_size.ensures ∙ c.if-not-valid_block_size.false

pub returns-then-not-valid_block_size : goal.returns-then-not-valid_block_size
unfolding split_refusal
returns-then-not-valid_block_size c = simp (sym c.valid_block_size.ensures ∙ c.if-not-valid_block_size.true)

pub nonzero_div-raw : goal.nonzero_div-raw
nonzero_div-raw c = omega (arith, valid_facts _ (size_ok c))

pub returns-then-raw-block_size-lt2 : goal.returns-then-raw-block_size-lt2
unfolding split_refusal
returns-then-raw-block_size-lt2 c = simp (size_ok (goal.at.returns-then-raw-block_size-lt2 c).Else-not-valid_block_size, lt-leb _ _ c.if-raw-block_size-lt2.true)

pub returns : goal.returns
unfolding split_refusal
returns c = simp (size_ok (goal.at.returns c).Else-not-valid_block_size, le-leb _ _ c.if-raw-block_size-lt2.false)
