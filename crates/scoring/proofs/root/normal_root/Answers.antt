-- `root::normal_root` meets its contract. Each need is a fact of `Rooting.antt`.
use Prim.Native.Nat.{◌*◌, ◌^◌}
use native.Mathlib.Omega.{arith}
use Rattle.scoring.proofs.Doubles.{no_nan}
use Rattle.scoring.proofs.Rooting.{Radicand, Root, even_radicand, odd_radicand, made_is}
use Rattle.scoring.proofs.root.normal_root.Goals.{After-root_digits, Joined-e-eq1, then-e-eq1, else-e-eq1}
use Rattle.scoring.proofs.root.normal_root.Goals as goal

-- where the arms have met
radicand : (c : Joined-e-eq1) → Radicand c.args.m c.args.e c.if-e-eq1.a
radicand c =
    let m = c.args.m in
    let e = c.args.e in
    let p = c.requires in
    elim c.if-e-eq1.branch [
      | then-e-eq1 w ↦ rw w.a-is (odd_radicand m e p.0 p.1 w.if-e-eq1.true)
      | else-e-eq1 w ↦ rw w.a-is (even_radicand m e p.0 p.1 w.if-e-eq1.false)
    ]

root_of : (c : After-root_digits) → Root (c.if-e-eq1.a * 2 ^ 54) c.root_digits.result
root_of c = c.root_digits.ensures.0

pub root_digits-requires : goal.root_digits-requires
root_digits-requires c = omega (arith, (radicand c).0, (radicand c).1)

pub float_from_bits-result : goal.float_from_bits-result
float_from_bits-result c = no_nan (omega (arith, c.root_digits.ensures.1, c.requires.2))

pub returns : goal.returns
returns c =
    λ X k. made_is X c.args.m c.args.e c.if-e-eq1.a c.root_digits.result (radicand (goal.at.returns c).Joined-e-eq1) (root_of c) c.requires.2 k
