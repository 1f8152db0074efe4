-- `root::whole_root` meets its contract: the chord brings t near enough for the step.
use Prim.Native.Nat.{◌^◌, ◌<◌}
use native.Mathlib.Omega.{arith}
use Rattle.scoring.specs.Whole.{Within}
use Rattle.scoring.proofs.Squares.{root_below, root_least, ended, step_short}
use Rattle.scoring.proofs.root.whole_root.Goals.{After-nearer-t}
use Rattle.scoring.proofs.root.whole_root.Goals as goal

-- what the chord leaves
left : (c : After-nearer-t) → Within c.args.a c.nearer-t.result (2 ^ 13)
left c = c.nearer-t.ensures.1 8191 (omega arith)

small : (c : After-nearer-t) → c.nearer-t.result < 2 ^ 27
small c = root_below c.args.a c.nearer-t.result (2 ^ 27) (left c).0 (omega arith)

pub nearer-t-requires : goal.nearer-t-requires
nearer-t-requires c = let f = c.first_guess.ensures in omega (arith, f, root_below c.args.a c.first_guess.result (2 ^ 27) f.0.0 (omega arith))

pub overflow_mul-d : goal.overflow_mul-d
overflow_mul-d c = omega (arith, (left c).0)

pub overflow_sub-d : goal.overflow_sub-d
overflow_sub-d c = omega (arith, (left c).0)

pub overflow_mul-t : goal.overflow_mul-t
overflow_mul-t c = omega (arith, small c)

pub overflow_mul-t-2 : goal.overflow_mul-t-2
overflow_mul-t-2 c = omega (arith, small c)

pub settled-requires : goal.settled-requires
settled-requires c = omega (arith, small c, step_short (ended c.args.a c.nearer-t.result (omega arith) (left c)))

pub returns : goal.returns
returns c =
    let a = c.args.a in
    let r = c.settled.result in
    let h = c.settled.ensures a (2 ^ 13) (ended a c.nearer-t.result (omega arith) (left (goal.at.returns c).After-nearer-t)) in
    (h, root_least a r (2 ^ 26) (omega arith) h.1, root_below a r (2 ^ 27) h.0 (omega arith))
