-- `entries::Odds::next_entry` meets its contract: the sum that is divided is at most 2^60.
use mathlib.Core.Path.{ap}
use Prim.Native.Nat.{ℕ, ◌+◌, ◌*◌, ◌/◌, ◌^◌, ◌≤◌, ◌<◌}
use native.Mathlib.Omega.{arith}
use native.Mathlib.Nat.{mul-le-mul_left}
use lib.Pow.{pow_mono}
use Rattle.chance.specs.Entries.{next_entry}
use Rattle.chance.proofs.Rows.{weighed_le}
use Rattle.chance.proofs.entries.Odds.next_entry.Goals.{Start}
use Rattle.chance.proofs.entries.Odds.next_entry.Goals as goal

-- the sum, as the code has it
fits : (s : Start) → let o = s.args.self in s.args.x * o.without + s.args.y * o.d < 2 ^ 64
fits s =
    let o = s.args.self in
    let h : 2 ^ o.k ≤ 2 ^ 20 = pow_mono {j = 20} o.parted.0 in
    rw o.parted.2 (omega (arith, weighed_le o.k o.d s.args.x s.args.y (2 ^ 40) o.parted.1 s.requires.0 s.requires.1, mul-le-mul_left (2 ^ 40) h))

pub overflow_mul-result : goal.overflow_mul-result
overflow_mul-result c = omega (arith, fits (goal.at.overflow_mul-result c).Start)

pub overflow_mul-result-2 : goal.overflow_mul-result-2
overflow_mul-result-2 c = omega (arith, fits (goal.at.overflow_mul-result-2 c).Start)

pub overflow_add-result : goal.overflow_add-result
overflow_add-result c = omega (arith, fits (goal.at.overflow_add-result c).Start)

pub returns : goal.returns
unfolding next_entry
returns c = let o = c.args.self in ap (λ (w : ℕ). (c.args.x * w + c.args.y * o.d) / 2 ^ o.k) o.parted.2
