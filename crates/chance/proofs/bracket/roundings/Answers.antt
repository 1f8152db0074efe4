-- `bracket::roundings` meets its contract: the product is small.
use Prim.Native.Nat.{◌+◌, ◌*◌, ◌≤◌}
use mathlib.Core.Path.{refl}
use native.Mathlib.Omega.{arith}
use native.Mathlib.Nat.{mul-le-mul}
use Rattle.chance.specs.Bracket.{roundings}
use Rattle.chance.proofs.bracket.roundings.Goals.{Start}
use Rattle.chance.proofs.bracket.roundings.Goals as goal

small : (s : Start) → let n = s.args.n in n * (n + 3) ≤ 4096 * 4099
small s =
    let n = s.args.n in
    let h : n + 3 ≤ 4099 = omega arith in
    mul-le-mul s.requires h

pub returns : goal.returns
unfolding roundings
returns c = (refl, omega (arith, small c))
