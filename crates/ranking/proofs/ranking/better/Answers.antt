-- `ranking::better` meets its contract: each return rewrites with the test.
use Rattle.ranking.proofs.ranking.better.Goals as goal

pub returns-then-best-z : goal.returns-then-best-z
returns-then-best-z c = simp c.if-best-z.true

pub returns : goal.returns
returns c = simp c.if-best-z.false
