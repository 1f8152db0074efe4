-- `header::well_formed` meets its contract: each return rewrites with the tests that led there.
use borrow.Author.Tests.{lt-leb, le-leb}
use mathlib.Core.Bool.{true}
use mathlib.Core.Path.{◌≡◌, sym, ◌∙◌}
use Rattle.sheet.specs.Header.{well_formed, is_field}
use Rattle.sheet.proofs.header.well_formed.Goals.{Else-not-is_field}
use Rattle.sheet.proofs.header.well_formed.Goals as goal

first_ok : (c : Else-not-is_field) → is_field c.args.input.now 0 ≡ true
first_ok c = sym c.is_field.ensures ∙ c.if-not-is_field.false

pub returns-then-input-lt13 : goal.returns-then-input-lt13
unfolding well_formed
returns-then-input-lt13 c = simp (lt-leb _ _ c.if-input-lt13.true)

pub returns-then-not-is_field : goal.returns-then-not-is_field
unfolding well_formed
returns-then-not-is_field c = simp (le-leb _ _ c.if-input-lt13.false, sym c.is_field.ensures ∙ c.if-not-is_field.true)

pub returns-then-not-is_field-2 : goal.returns-then-not-is_field-2
unfolding well_formed
returns-then-not-is_field-2 c = simp (le-leb _ _ c.if-input-lt13.false, first_ok (goal.at.returns-then-not-is_field-2 c).Else-not-is_field, sym c.is_field-2.ensures ∙ c.if-not-is_field-2.true)

pub returns : goal.returns
unfolding well_formed
returns c = simp (le-leb _ _ c.if-input-lt13.false, first_ok (goal.at.returns c).Else-not-is_field, sym c.is_field-2.ensures ∙ c.if-not-is_field-2.false)
