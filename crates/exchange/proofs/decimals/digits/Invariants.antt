-- `decimals::digits` meets its contract: the powers of ten that are left lead to the number of digits.
use Rattle.std.proofs.Common.{◌≡◌, suc, ◌+◌, ◌-◌, ◌^◌, ◌≤◌, length}
use Rattle.exchange.specs.Writer.{decimal}
use Rattle.exchange.proofs.Figures.{reached}
use Rattle.exchange.proofs.decimals.digits.Given as goal

abbrev pub invariant-loop : goal.invariant-loop
invariant-loop l =
    (l.count + reached (9 - l.counter) (10 ^ suc l.counter) l.n ≡ length (decimal l.n)) × (l.power ≡ 10 ^ l.counter) × (l.count ≤ l.counter + 1)
