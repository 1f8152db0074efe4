-- `findings::read_bits` meets its contract. The loop's invariant: the first i bits are read, and the rest is as it was.
use mathlib.Core.Path.{◌≡◌, refl, ap, ◌∙◌}
use mathlib.Core.List.{List, ◌++◌}
use Prim.Native.Nat.{ℕ, ◌<◌}
use native.Mathlib.Omega.{arith}
use lib.ListN.{length, take, drop, set, get_or, replicate}
use lib.Seq.{take-length}
use Rattle.exports.proofs.Writing.{copy_first, drop_zeros}
use Rattle.exports.proofs.findings.read_bits.Goals as goal

pub loop-i-init : goal.loop-i-init
loop-i-init c = (omega arith, refl)

pub overflow_cast-bits : goal.overflow_cast-bits
overflow_cast-bits c =
    omega (arith, c.requires.1 c.loop-i.i c.loop-i-test.true)

pub loop-i-preserved : goal.loop-i-preserved
loop-i-preserved c =
    let lent = c.args.lent.now in
    let i = c.loop-i.i in
    let room : i < length {A = ℕ} (replicate 20 0) = omega (arith, c.requires.0) in
    (omega arith, ap (λ (t : List ℕ). set t i (get_or lent i 0)) c.loop-i.invariant.1 ∙ copy_first lent (replicate 20 0) i (omega arith) room)

pub returns : goal.returns
returns c =
    let lent = c.args.lent.now in
    let e : c.loop-i.i ≡ length lent = omega arith in
    c.loop-i.invariant.1
    ∙ ap (λ (i : ℕ). take i lent ++ drop i (replicate 20 0)) e
    ∙ ap (λ (t : List ℕ). t ++ drop (length lent) (replicate 20 0)) (take-length lent)
    ∙ ap (λ (t : List ℕ). lent ++ t) (drop_zeros (length lent) 20)
