-- `entries::past_zeros` meets its contract: what stands before the first entry that is not 0 is 0.
use mathlib.Core.Path.{◌≡◌}
use mathlib.Core.List.{List}
use Prim.Native.Nat.{ℕ, ◌-◌, ◌<◌}
use native.Mathlib.Omega.{arith}
use lib.ListN.{length, take, drop, length-take, length-drop}
use Rattle.std.proofs.Common.{rules}
use Rattle.std.specs.Option.{MatchOption}
use Rattle.std.specs.List.{AllWithin}
use Rattle.chance.proofs.Filling.{none_within}
use Rattle.chance.proofs.entries.past_zeros.Goals.{After-position}
use Rattle.chance.proofs.entries.past_zeros.Goals as goal

-- the part that is gone through
abbrev part : After-position → List ℕ
part d = take (d.args.to - d.args.from) (drop d.args.from d.args.scratch.now)

long : (d : After-position) → length (part d) ≡ d.args.to - d.args.from
long d = omega (arith, length-take (d.args.to - d.args.from) (drop d.args.from d.args.scratch.now), length-drop d.args.from d.args.scratch.now)

found : (d : After-position) → MatchOption d.position.result (AllWithin (λ x. x ≡ 0) (part d) 0 (length (part d))) (λ i. (i < length (part d)) × AllWithin (λ x. x ≡ 0) (part d) 0 i)
found d = search rules

pub returns-in-Some : goal.returns-in-Some
returns-in-Some c =
    let d = (goal.at.returns-in-Some c).After-position in
    let f = rw c.in-Some.is at (found d) in
    let l = long d in
    (omega arith, omega (arith, f.0), λ j a h. none_within c.args.scratch.now c.args.from c.args.to 0 c.in-Some.zeros (omega (arith, f.0)) f.1 j (omega arith) h)

pub returns-in-None : goal.returns-in-None
returns-in-None c =
    let d = (goal.at.returns-in-None c).After-position in
    let f = rw c.in-None.is at (found d) in
    let l = long d in
    (omega arith, omega arith, λ j a h. none_within c.args.scratch.now c.args.from c.args.to 0 (length (part d)) (omega arith) f j (omega arith) (omega arith))
