-- `root::nearer` meets its contract: the laws of the chord.
use native.Mathlib.Omega.{arith}
use Rattle.scoring.proofs.Squares.{chord, chord_short}
use Rattle.scoring.proofs.root.nearer.Goals as goal

pub overflow_add-result-2 : goal.overflow_add-result-2
overflow_add-result-2 c = let p = c.requires in omega (arith, chord_short c.args.a c.args.t c.args.e (omega arith) p.0)

pub returns : goal.returns
returns c = (omega arith, chord c.args.a c.args.t c.args.e (omega arith) c.requires.0)
