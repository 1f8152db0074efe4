-- `words::known_digits` meets its contract: no number on the way is above the last.
use Rattle.std.proofs.Common.{ℕ, List, ap, arith}
use Rattle.exchange.proofs.Shortcut.{is_one}
use Rattle.exchange.proofs.Stepping.{known_small}
use Rattle.exchange.proofs.words.known_digits.Goals as goal

pub overflow_mul-n : goal.overflow_mul-n
overflow_mul-n c =
    omega (arith, known_small c.loop-left.n c.loop-left.left.now (omega arith) (is_one _ (omega arith) (omega arith)), ap (λ (r : ℕ × List ℕ). r.0) c.loop-left.invariant, c.requires)

pub overflow_add-n : goal.overflow_add-n
overflow_add-n c =
    omega (arith, known_small c.loop-left.n c.loop-left.left.now (omega arith) (is_one _ (omega arith) (omega arith)), ap (λ (r : ℕ × List ℕ). r.0) c.loop-left.invariant, c.requires, c.from.ensures)
