-- `root::root_digits` meets its contract: the step is taken from s * 2 ^ 27 for a * 2 ^ 54.
use Prim.Native.Nat.{◌-◌, ◌*◌, ◌/◌, ◌%◌, ◌^◌}
use native.Mathlib.Omega.{arith}
use Rattle.scoring.specs.Whole.{Step}
use Rattle.scoring.proofs.Squares.{widened, step_short, root_below}
use Rattle.scoring.proofs.root.root_digits.Goals.{After-whole_root-s}
use Rattle.scoring.proofs.root.root_digits.Goals as goal

-- the step from s
step : (c : After-whole_root-s) → Step (c.args.a * 2 ^ 54) (c.whole_root-s.result * 2 ^ 27) (2 ^ 27) ((c.args.a - c.whole_root-s.result * c.whole_root-s.result) * 2 ^ 26 / c.whole_root-s.result) ((c.args.a - c.whole_root-s.result * c.whole_root-s.result) * 2 ^ 26 % c.whole_root-s.result * 2 ^ 28)
step c = widened c.args.a c.whole_root-s.result c.whole_root-s.ensures.1 c.whole_root-s.ensures.0

pub overflow_mul-d-3 : goal.overflow_mul-d-3
overflow_mul-d-3 c = omega (arith, (step c).rest)

pub settled-requires : goal.settled-requires
settled-requires c = omega (arith, step_short (step c))

pub returns : goal.returns
returns c =
    let a = c.args.a in
    let h = c.settled.ensures (a * 2 ^ 54) (2 ^ 27) (step (goal.at.returns c).After-whole_root-s) in
    (h, root_below (a * 2 ^ 54) c.settled.result (2 ^ 54) h.0 (omega arith))
