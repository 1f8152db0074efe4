-- `pair::tested_part` meets its contract: a testing half of fewer blocks is left whole.
use mathlib.Core.Path.{◌≡◌, ap, ◌∙◌}
use mathlib.Core.List.{List}
use Prim.Native.Nat.{ℕ, ◌*◌, ◌/◌, min}
use native.Mathlib.Omega.{arith}
use lib.ListN.{length, take}
use Rattle.std.proofs.lemmas.List.{take_min}
use Rattle.sweeping.specs.Pair.{tested_part}
use Rattle.sweeping.proofs.pair.tested_part.Goals as goal

pub returns : goal.returns
unfolding tested_part
returns c =
    let all : List ℕ = c.second_part-testing.result.now in
    let most = 4096 * (c.args.block_size / 8) in
    let few : c.min.result ≡ min most (length all) = omega (arith, c.min.ensures) in
    ap (λ (n : ℕ). take n all) few ∙ take_min most all ∙ ap (take most) c.second_part-testing.ensures
