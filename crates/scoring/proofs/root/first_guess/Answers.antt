-- `root::first_guess` meets its contract: what either chord leaves is below 2 ^ 21.
use native.Mathlib.Omega.{arith}
use Rattle.scoring.proofs.root.first_guess.Goals as goal

pub returns-then-a-lt9007199254740992 : goal.returns-then-a-lt9007199254740992
returns-then-a-lt9007199254740992 c = (c.nearer.ensures.1 2097151 (omega arith), omega arith)

pub returns : goal.returns
returns c = (c.nearer-2.ensures.1 2097151 (omega arith), omega arith)
