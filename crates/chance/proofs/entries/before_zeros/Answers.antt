-- `entries::before_zeros` meets its contract: what stands past the last entry that is not 0 is 0.
use mathlib.Core.Path.{◌≡◌}
use mathlib.Core.List.{List}
use Prim.Native.Nat.{ℕ, ◌+◌, ◌-◌, ◌<◌}
use native.Mathlib.Omega.{arith}
use lib.ListN.{length, take, drop, length-take, length-drop}
use Rattle.std.proofs.Common.{rules}
use Rattle.std.specs.Option.{MatchOption}
use Rattle.std.specs.List.{AllWithin}
use Rattle.chance.proofs.Filling.{none_within}
use Rattle.chance.proofs.entries.before_zeros.Goals.{After-rposition}
use Rattle.chance.proofs.entries.before_zeros.Goals as goal

-- the part that is gone through
abbrev part : After-rposition → List ℕ
part d = take (d.args.to - d.args.from) (drop d.args.from d.args.scratch.now)

long : (d : After-rposition) → length (part d) ≡ d.args.to - d.args.from
long d = omega (arith, length-take (d.args.to - d.args.from) (drop d.args.from d.args.scratch.now), length-drop d.args.from d.args.scratch.now)

found : (d : After-rposition) → MatchOption d.rposition.result (AllWithin (λ x. x ≡ 0) (part d) 0 (length (part d))) (λ i. (i < length (part d)) × AllWithin (λ x. x ≡ 0) (part d) (i + 1) (length (part d)))
found d = search rules

pub returns-in-Some : goal.returns-in-Some
returns-in-Some c =
    let d = (goal.at.returns-in-Some c).After-rposition in
    let f = rw c.in-Some.is at (found d) in
    let l = long d in
    (omega arith, omega (arith, f.0), λ j a h. none_within c.args.scratch.now c.args.from c.args.to (c.in-Some.last + 1) (length (part d)) (omega arith) f.1 j (omega arith) (omega arith))

pub returns-in-None : goal.returns-in-None
returns-in-None c =
    let d = (goal.at.returns-in-None c).After-rposition in
    let f = rw c.in-None.is at (found d) in
    let l = long d in
    (omega arith, omega arith, λ j a h. none_within c.args.scratch.now c.args.from c.args.to 0 (length (part d)) (omega arith) f j (omega arith) (omega arith))
