-- `search::buffer_refusal` meets its contract: each return rewrites with the tests that led there.
use mathlib.Core.Path.{◌≡◌}
use mathlib.Core.Logic.{inl, inr}
use Prim.Native.Nat.{ℕ, ◌^◌, ◌≤◌, ◌<◌}
use native.Mathlib.Omega.{arith}
use borrow.Author.Tests.{le-leb, lt-leb}
use Rattle.searching.specs.Refusal.{buffer_refusal}
use Rattle.searching.proofs.search.buffer_refusal.Goals as goal

first_short : (k a b : ℕ) → a < 2 ^ k → 7 ≡ buffer_refusal k a b
unfolding buffer_refusal
first_short k a b h = simp (lt-leb _ _ h)

second_short : (k a b : ℕ) → 2 ^ k ≤ a → b < 2 ^ k → 7 ≡ buffer_refusal k a b
unfolding buffer_refusal
second_short k a b h g = simp (le-leb _ _ h, lt-leb _ _ g)

pub returns-then-bins-m : goal.returns-then-bins-m
returns-then-bins-m c =
    let size = c.bin_count-m.ensures in
    elim c.then-bins-m.either [
      | inl h ↦ first_short _ _ _ (omega (arith, h, size))
      | inr p ↦ second_short _ _ _ (omega (arith, p.0, size)) (omega (arith, p.1, size))
    ]

pub returns : goal.returns
unfolding buffer_refusal
returns c =
    let a = c.args in
    let enough : 2 ^ a.k ≤ a.bins = omega (arith, c.bin_count-m.ensures) in
    let too : 2 ^ a.k ≤ a.order = omega (arith, c.bin_count-m.ensures) in
    simp (le-leb _ _ enough, le-leb _ _ too)
