-- `search::width_refusal` meets its contract: each return rewrites with the tests that led there.
use mathlib.Core.Path.{sym, ◌∙◌}
use borrow.Author.Tests.{le-leb, lt-leb}
use Rattle.searching.specs.Refusal.{width_refusal}
use Rattle.searching.proofs.search.width_refusal.Goals as goal

pub returns-then-not-valid_width : goal.returns-then-not-valid_width
unfolding width_refusal
returns-then-not-valid_width c = simp (sym c.valid_width.ensures ∙ c.if-not-valid_width.true)

pub returns-then-k-block_size : goal.returns-then-k-block_size
unfolding width_refusal
returns-then-k-block_size c = simp (sym c.valid_width.ensures ∙ c.if-not-valid_width.false, lt-leb _ _ c.if-k-block_size.true)

pub returns : goal.returns
unfolding width_refusal
returns c = simp (sym c.valid_width.ensures ∙ c.if-not-valid_width.false, le-leb _ _ c.if-k-block_size.false)
