-- `records::write_bits` meets its contract. The loop's invariant: the first i bits stand after the four numbers, and the rest is as lent.
use mathlib.Core.Path.{◌≡◌, refl, sym, ap, ◌∙◌}
use mathlib.Core.List.{List, ◌++◌, append-nil}
use Prim.Native.Nat.{ℕ, ◌+◌}
use native.Mathlib.Omega.{arith}
use lib.ListN.{length, take, drop, set, get_or, length-set, take-append-drop}
use lib.Seq.{length-take-le, take-length}
use Rattle.exports.proofs.Writing.{copy_next}
use Rattle.exports.proofs.records.write_bits.Goals as goal

pub loop-i-init : goal.loop-i-init
loop-i-init c =
    let l = c.args.numbers.now in
    (omega arith, refl, sym (ap (λ (t : List ℕ). t ++ drop 4 l) (append-nil (take 4 l)) ∙ take-append-drop 4 l))

pub overflow_cast-numbers : goal.overflow_cast-numbers
overflow_cast-numbers c = omega (arith, c.type_inv.bits c.loop-i.i)

pub bounds-numbers-i : goal.bounds-numbers-i
bounds-numbers-i c = omega (arith, c.requires, c.loop-i.invariant.1)

pub loop-i-preserved : goal.loop-i-preserved
loop-i-preserved c =
    let a = c.args in
    let i = c.loop-i.i in
    let size : length (take 4 a.numbers.now) ≡ 4 = length-take-le 4 a.numbers.now (omega (arith, c.requires)) in (
      omega arith,
      length-set c.loop-i.numbers (4 + i) (get_or a.bits.now i 0) ∙ c.loop-i.invariant.1,
      ap (λ (t : List ℕ). set t (4 + i) (get_or a.bits.now i 0)) c.loop-i.invariant.2
          ∙ copy_next (take 4 a.numbers.now) a.bits.now a.numbers.now 4 i size (omega arith) (omega (arith, c.requires)),
    )

pub shape_of-numbers : goal.shape_of-numbers
shape_of-numbers c = c.loop-i.invariant.1

pub returns : goal.returns
returns c =
    let a = c.args in
    let e : c.loop-i.i ≡ length a.bits.now = omega arith in
    c.loop-i.invariant.2
    ∙ ap (λ (i : ℕ). (take 4 a.numbers.now ++ take i a.bits.now) ++ drop (4 + i) a.numbers.now) e
    ∙ ap (λ (t : List ℕ). (take 4 a.numbers.now ++ t) ++ drop (4 + length a.bits.now) a.numbers.now) (take-length a.bits.now)
