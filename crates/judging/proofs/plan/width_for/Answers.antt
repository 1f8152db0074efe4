-- `plan::width_for` meets its contract: each return rewrites with the tests that led there.
use mathlib.Core.Path.{◌≡◌}
use mathlib.Core.Bool.{false, ◌&&◌}
use mathlib.Core.Logic.{inl, inr}
use lib.Dec.{leb, ltb}
use borrow.Author.Tests.{le-leb, lt-leb, lt-ltb, le-ltb}
use Rattle.judging.specs.Plan.{width_for}
use Rattle.judging.proofs.plan.width_for.Goals.{Joined-else-data_size-le10000000}
use Rattle.judging.proofs.plan.width_for.Goals as goal

-- past the first test
not_four : (c : Joined-else-data_size-le10000000) → let s = c.args in (leb s.data_size 10000000 && ltb s.size 128) ≡ false
not_four c = elim c.else-data_size-le10000000.either [ inl w ↦ simp (le-leb _ _ w.0, le-ltb _ _ w.1) | inr w ↦ simp (lt-leb _ _ w) ]

pub returns-then-size-lt128 : goal.returns-then-size-lt128
unfolding width_for
returns-then-size-lt128 c = simp (le-leb _ _ c.if-data_size-le10000000.true, lt-ltb _ _ c.if-size-lt128.true)

pub returns-then-size-lt256 : goal.returns-then-size-lt256
unfolding width_for
returns-then-size-lt256 c = simp (not_four (goal.at.returns-then-size-lt256 c).Joined-else-data_size-le10000000, lt-ltb _ _ c.if-data_size-lt2000000000.true, lt-ltb _ _ c.if-size-lt256.true)

pub returns : goal.returns
unfolding width_for
returns c =
    let s = c.args in
    let not_three : (ltb s.data_size 2000000000 && ltb s.size 256) ≡ false = elim c.else-data_size-lt2000000000.either [ inl w ↦ simp (lt-ltb _ _ w.0, le-ltb _ _ w.1) | inr w ↦ simp (le-ltb _ _ w) ] in
    simp (not_four (goal.at.returns c).Joined-else-data_size-le10000000, not_three)
