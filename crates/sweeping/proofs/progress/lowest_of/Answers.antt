-- `progress::lowest_of` meets its contract: each return by the tests that led there.
use mathlib.Core.Logic.{inl, inr}
use borrow.Author.Tests.{eq-eqb, ne_eqb, lt-ltb, le-ltb}
use Rattle.sweeping.specs.Progress.{lowest_of}
use Rattle.sweeping.proofs.progress.lowest_of.Goals as goal

pub returns-then-progress-eq0 : goal.returns-then-progress-eq0
unfolding lowest_of
returns-then-progress-eq0 c = elim c.then-progress-eq0.either [ inl w ↦ simp (eq-eqb _ _ w) | inr w ↦ simp (ne_eqb _ _ w.0, lt-ltb _ _ w.1) ]

pub returns : goal.returns
unfolding lowest_of
returns c = simp (ne_eqb _ _ c.if-progress-eq0.false, le-ltb _ _ c.if-tested-progress.false)
