-- `run::fill_row` meets its contract. The loop's invariant: c is m choose r, and the row stands up to r.
use Prim.Native.Nat.{ℕ, ◌+◌, ◌-◌, ◌*◌, ◌/◌, ◌^◌, ◌<◌}
use mathlib.Core.Path.{◌≡◌, refl, subst}
use native.Mathlib.Omega.{arith}
use lib.ListN.{length}
use Rattle.subsets.specs.Choose.{choose}
use Rattle.subsets.proofs.Choosing.{turn}
use Rattle.layers.proofs.Running.{Row, row_none, row_more}
use Rattle.layers.proofs.run.fill_row.Goals.{At-loop-r, In-loop-r}
use Rattle.layers.proofs.run.fill_row.Goals as goal

next : (d : In-loop-r) → d.loop-r.c * (d.args.m - d.loop-r.r) / (d.loop-r.r + 1) ≡ choose d.args.m (d.loop-r.r + 1)
next d = turn d.args.m d.loop-r.r d.loop-r.c d.loop-r.invariant.0

next_small : (d : In-loop-r) → d.loop-r.c * (d.args.m - d.loop-r.r) / (d.loop-r.r + 1) < 2 ^ 32
next_small d = omega (arith, next d, d.requires.by_index (d.loop-r.r + 1) (omega (arith, d.loop-r-test.true)))

-- the next entry is in the run
inside : (d : In-loop-r) → d.args.at + (d.loop-r.r + 1) < length d.loop-r.run
inside d = omega (arith, d.loop-r.invariant.1.size, d.requires.m_bound, d.loop-r-test.true)

pub loop-r-init : goal.loop-r-init
loop-r-init c = (refl, row_none c.args.at c.args.m c.args.run.now)

pub overflow_cast-run : goal.overflow_cast-run
overflow_cast-run c = omega (arith, next_small c)

pub loop-r-preserved : goal.loop-r-preserved
loop-r-preserved c =
    let a = c.args in
    (next c, row_more a.at a.m c.loop-r.r _ a.run.now c.loop-r.run (inside c) (next c) c.loop-r.invariant.1)

pub returns : goal.returns
returns c =
    let a = c.args in
    let all : c.loop-r.r ≡ a.most = omega arith in
    let row = subst (λ (r : ℕ). Row a.at a.m r a.run.now c.loop-r.run) all c.loop-r.invariant.1 in
    record { by_index_2 = row.filled; by_index_3 = row.spared }
