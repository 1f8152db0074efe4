-- `carrying::earlier_refusal` meets its contract: each return rewrites with the tests that led there.
use mathlib.Core.Path.{◌≡◌, sym, ◌∙◌}
use mathlib.Core.Bool.{true}
use Prim.Native.Nat.{◌≤◌, ◌<◌}
use native.Mathlib.Omega.{arith}
use lib.Dec.{eqb}
use borrow.Author.Tests.{eq-eqb, ne_eqb, le-leb, lt-leb}
use Rattle.counting.specs.Block.{valid_size}
use Rattle.counting.specs.Recording.{capacity_bytes}
use Rattle.counting.proofs.Accepted.{valid_facts}
use Rattle.sampling.specs.Earlier.{earlier_refusal}
use Rattle.sampling.proofs.carrying.earlier_refusal.Goals.{Else-earlier-words, Else-not-valid_block_size}
use Rattle.sampling.proofs.carrying.earlier_refusal.Goals as goal

size_ok : (c : Else-not-valid_block_size) → valid_size c.args.earlier.block_size ≡ true
size_ok c = sym c.valid_block_size.ensures ∙ c.if-not-valid_block_size.false

words_ok : (c : Else-earlier-words) → let s = c.args in eqb s.earlier.words s.words ≡ true
words_ok c = eq-eqb _ _ c.if-earlier-words.false

pub returns-then-not-valid_block_size : goal.returns-then-not-valid_block_size
unfolding earlier_refusal
returns-then-not-valid_block_size c = simp (sym c.valid_block_size.ensures ∙ c.if-not-valid_block_size.true)

pub returns-then-earlier-words : goal.returns-then-earlier-words
unfolding earlier_refusal
returns-then-earlier-words c = simp (size_ok (goal.at.returns-then-earlier-words c).Else-not-valid_block_size, ne_eqb _ _ c.if-earlier-words.true)

pub capacity_bytes-requires-clause-le_block_size : goal.capacity_bytes-requires-clause-le_block_size
capacity_bytes-requires-clause-le_block_size c =
    omega (arith, valid_facts _ (size_ok (goal.at.capacity_bytes-requires-clause-le_block_size c).Else-not-valid_block_size))

pub capacity_bytes-requires-clause-block_size_bound : goal.capacity_bytes-requires-clause-block_size_bound
capacity_bytes-requires-clause-block_size_bound c =
    omega (arith, valid_facts _ (size_ok (goal.at.capacity_bytes-requires-clause-block_size_bound c).Else-not-valid_block_size))

pub returns-then-earlier-capacity_bytes : goal.returns-then-earlier-capacity_bytes
unfolding earlier_refusal
returns-then-earlier-capacity_bytes c =
    let s = c.args in
    let over : capacity_bytes s.earlier.block_size s.words < s.earlier.taken = omega (arith, c.capacity_bytes.ensures) in
    simp (size_ok (goal.at.returns-then-earlier-capacity_bytes c).Else-not-valid_block_size, words_ok (goal.at.returns-then-earlier-capacity_bytes c).Else-earlier-words, lt-leb _ _ over)

pub returns : goal.returns
unfolding earlier_refusal
returns c =
    let s = c.args in
    let within : s.earlier.taken ≤ capacity_bytes s.earlier.block_size s.words = omega (arith, c.capacity_bytes.ensures) in
    simp (size_ok (goal.at.returns c).Else-not-valid_block_size, words_ok (goal.at.returns c).Else-earlier-words, le-leb _ _ within)
