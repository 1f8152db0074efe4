-- `bracket::sum_from` meets its contract: at most 2^40 for each entry.
use mathlib.Core.Path.{◌≡◌, ◌∙◌}
use Prim.Native.Nat.{◌+◌, ◌-◌, ◌<◌, ◌^◌}
use native.Mathlib.Omega.{arith}
use lib.ListN.{take, drop}
use Rattle.std.proofs.Common.{rules}
use Rattle.std.specs.Prelude.{sum}
use Rattle.chance.proofs.Summing.{part_sum, part_small}
use Rattle.chance.proofs.bracket.sum_from.Goals as goal

pub sum-requires-clause-fits : goal.sum-requires-clause-fits
sum-requires-clause-fits c =
    let a = c.args in
    let small : sum (take (a.n + 1 - a.c) (drop a.c a.scratch.now)) < 2 ^ 60 = part_small a.scratch.now a.c a.n c.requires.c_le_n.0 c.requires.c_le_n.2 c.requires.c_le_n.1 c.requires.by_index in
    let fits : sum (take (a.n + 1 - a.c) (drop a.c a.scratch.now)) < 2 ^ 64 = omega arith in
    search rules

pub returns : goal.returns
returns c =
    let a = c.args in
    let n = c.requires.c_le_n in
    let is : c.sum.result ≡ sum (take (a.n + 1 - a.c) (drop a.c a.scratch.now)) = search rules in
    (is ∙ part_sum a.scratch.now a.c a.n n.0 n.2, omega (arith, part_small a.scratch.now a.c a.n n.0 n.2 n.1 c.requires.by_index))
