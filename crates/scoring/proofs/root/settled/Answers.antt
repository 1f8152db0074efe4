-- `root::settled` meets its contract: the laws of the step.
use Prim.Native.Nat.{◌≤◌}
use native.Mathlib.Omega.{arith}
use Rattle.scoring.proofs.Squares.{square_mono, settled_all, settled_less, not_none}
use Rattle.scoring.proofs.root.settled.Goals as goal

pub overflow_mul-q : goal.overflow_mul-q
overflow_mul-q c = let h : c.args.q ≤ 4294967295 = omega arith in omega (arith, square_mono h)

pub returns-then-q-u : goal.returns-then-q-u
returns-then-q-u c = λ n p s. settled_all s (omega arith)

pub overflow_sub-result : goal.overflow_sub-result
overflow_sub-result c = omega (arith, not_none c.args.q c.args.u (omega arith))

pub returns : goal.returns
returns c = λ n p s. settled_less s (omega arith)
