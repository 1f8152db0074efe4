-- `refusal::level_refusal` meets its contract: each return by the tests that led there.
use Prim.Native.Nat.{◌^◌, ◌≤◌, ◌<◌}
use native.Mathlib.Omega.{arith}
use mathlib.Core.Logic.{inl, inr}
use borrow.Author.Tests.{le-leb, lt-leb, lt-ltb, le-ltb}
use Rattle.sweeping.specs.Refusal.{level_refusal}
use Rattle.sweeping.proofs.refusal.level_refusal.Goals as goal

pub returns-then-level-lt1 : goal.returns-then-level-lt1
unfolding level_refusal
returns-then-level-lt1 c =
    elim c.then-level-lt1.either [
      | inl w ↦ simp (lt-leb 1 _ w)
      | inr w ↦ let some : 1 ≤ c.args.level = omega (arith, w.0) in let high : 2 ^ 40 ≤ c.args.level = omega (arith, w.1) in simp (le-leb 1 _ some, le-ltb _ _ high)
    ]

pub returns : goal.returns
unfolding level_refusal
returns c =
    let some : 1 ≤ c.args.level = omega arith in
    let low : c.args.level < 2 ^ 40 = omega arith in
    simp (le-leb 1 _ some, lt-ltb _ _ low)
