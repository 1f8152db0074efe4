-- `header::digit_of` meets its contract: each test is the definition's.
use borrow.Author.Tests.{lt-leb, le-leb}
use native.Mathlib.Omega.{arith}
use Prim.Native.Nat.{◌≤◌, ◌<◌}
use Rattle.sheet.specs.Header.{digit_of}
use Rattle.sheet.proofs.header.digit_of.Goals as goal

pub returns-in-48-to-57-clause-value : goal.returns-in-48-to-57-clause-value
unfolding digit_of
returns-in-48-to-57-clause-value c = let low : 48 ≤ c.args.c = omega arith in let high : c.args.c ≤ 57 = omega arith in simp (le-leb _ _ low, le-leb _ _ high)

pub returns-in_default-clause-value : goal.returns-in_default-clause-value
unfolding digit_of
returns-in_default-clause-value c = let under : c.args.c < 48 = omega arith in simp (lt-leb _ _ under)

pub returns-in_default-2-clause-value : goal.returns-in_default-2-clause-value
unfolding digit_of
returns-in_default-2-clause-value c = let low : 48 ≤ c.args.c = omega arith in let over : 57 < c.args.c = omega arith in simp (le-leb _ _ low, lt-leb _ _ over)
