-- `sampler::sampler_refusal` meets its contract: each return rewrites with the tests that led there.
use mathlib.Core.Path.{◌≡◌, sym, ◌∙◌}
use mathlib.Core.Bool.{true}
use Prim.Native.Nat.{◌≤◌, ◌<◌}
use native.Mathlib.Omega.{arith}
use lib.Dec.{leb, eqb}
use borrow.Author.Tests.{eq-eqb, ne_eqb, le-leb, lt-leb}
use Rattle.counting.specs.Block.{valid_size}
use Rattle.counting.specs.Recording.{capacity}
use Rattle.counting.proofs.Accepted.{valid_facts}
use Rattle.sampling.specs.Sampler.{sampler_refusal}
use Rattle.sampling.proofs.sampler.sampler_refusal.Goals.{Else-not-valid_block_size, Else-sampler-capacity_blocks, Else-sampler-words}
use Rattle.sampling.proofs.sampler.sampler_refusal.Goals as goal

size_ok : (c : Else-not-valid_block_size) → valid_size c.args.sampler.block_size ≡ true
size_ok c = sym c.valid_block_size.ensures ∙ c.if-not-valid_block_size.false

words_ok : (c : Else-sampler-words) → let s = c.args in eqb s.sampler.words s.words ≡ true
words_ok c = eq-eqb _ _ c.if-sampler-words.false

held : (c : Else-sampler-capacity_blocks) → let s = c.args in
    leb s.sampler.blocks (capacity s.sampler.block_size s.words) ≡ true
held c =
    let s = c.args in
    let within : s.sampler.blocks ≤ capacity s.sampler.block_size s.words = omega (arith, c.capacity_blocks.ensures) in
    le-leb _ _ within

pub returns-then-not-valid_block_size : goal.returns-then-not-valid_block_size
unfolding sampler_refusal
returns-then-not-valid_block_size c = simp (sym c.valid_block_size.ensures ∙ c.if-not-valid_block_size.true)

pub returns-then-sampler-words : goal.returns-then-sampler-words
unfolding sampler_refusal
returns-then-sampler-words c = simp (size_ok (goal.at.returns-then-sampler-words c).Else-not-valid_block_size, ne_eqb _ _ c.if-sampler-words.true)

pub capacity_blocks-requires-clause-le_block_size : goal.capacity_blocks-requires-clause-le_block_size
capacity_blocks-requires-clause-le_block_size c =
    omega (arith, valid_facts _ (size_ok (goal.at.capacity_blocks-requires-clause-le_block_size c).Else-not-valid_block_size))

pub returns-then-sampler-capacity_blocks : goal.returns-then-sampler-capacity_blocks
unfolding sampler_refusal
returns-then-sampler-capacity_blocks c =
    let s = c.args in
    let over : capacity s.sampler.block_size s.words < s.sampler.blocks = omega (arith, c.capacity_blocks.ensures) in
    simp (size_ok (goal.at.returns-then-sampler-capacity_blocks c).Else-not-valid_block_size, words_ok (goal.at.returns-then-sampler-capacity_blocks c).Else-sampler-words, lt-leb _ _ over)

pub returns-then-not-each_short : goal.returns-then-not-each_short
unfolding sampler_refusal
returns-then-not-each_short c =
    simp (size_ok (goal.at.returns-then-not-each_short c).Else-not-valid_block_size, words_ok (goal.at.returns-then-not-each_short c).Else-sampler-words, held (goal.at.returns-then-not-each_short c).Else-sampler-capacity_blocks, sym c.each_short.ensures ∙ c.if-not-each_short.true)

pub returns : goal.returns
unfolding sampler_refusal
returns c =
    simp (size_ok (goal.at.returns c).Else-not-valid_block_size, words_ok (goal.at.returns c).Else-sampler-words, held (goal.at.returns c).Else-sampler-capacity_blocks, sym c.each_short.ensures ∙ c.if-not-each_short.false)
