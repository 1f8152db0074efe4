-- `records::write_sizes` meets its contract. The loop's invariant: the first i sizes stand at their place, and the rest is as lent.
use mathlib.Core.Path.{◌≡◌, refl, sym, ap, ◌∙◌}
use mathlib.Core.List.{List, ◌++◌, append-nil}
use Prim.Native.Nat.{ℕ, ◌+◌}
use native.Mathlib.Nat.{add-zero}
use native.Mathlib.Omega.{arith}
use lib.ListN.{length, take, drop, set, get_or, length-set, take-append-drop}
use lib.Seq.{length-take-le, take-length}
use Rattle.exports.proofs.Writing.{copy_next}
use Rattle.exports.proofs.records.write_sizes.Goals as goal

pub loop-i-init : goal.loop-i-init
loop-i-init c =
    let l = c.args.numbers.now in
    let at = c.args.at in
    (omega arith, refl, sym (ap (λ (t : List ℕ). t ++ drop (at + 0) l) (append-nil (take at l)) ∙ ap (λ (n : ℕ). take at l ++ drop n l) (add-zero at) ∙ take-append-drop at l))

pub overflow_add-numbers : goal.overflow_add-numbers
overflow_add-numbers c = omega (arith, c.requires)

pub bounds-numbers-at : goal.bounds-numbers-at
bounds-numbers-at c = omega (arith, c.requires, c.loop-i.invariant.1)

pub loop-i-preserved : goal.loop-i-preserved
loop-i-preserved c =
    let a = c.args in
    let i = c.loop-i.i in
    let size : length (take a.at a.numbers.now) ≡ a.at = length-take-le a.at a.numbers.now (omega (arith, c.requires)) in (
      omega arith,
      length-set c.loop-i.numbers (a.at + i) (get_or a.sizes.now i 0) ∙ c.loop-i.invariant.1,
      ap (λ (t : List ℕ). set t (a.at + i) (get_or a.sizes.now i 0)) c.loop-i.invariant.2
          ∙ copy_next (take a.at a.numbers.now) a.sizes.now a.numbers.now a.at i size (omega arith) (omega (arith, c.requires)),
    )

pub shape_of-numbers : goal.shape_of-numbers
shape_of-numbers c = c.loop-i.invariant.1

pub returns : goal.returns
returns c =
    let a = c.args in
    let e : c.loop-i.i ≡ length a.sizes.now = omega arith in
    c.loop-i.invariant.2
    ∙ ap (λ (i : ℕ). (take a.at a.numbers.now ++ take i a.sizes.now) ++ drop (a.at + i) a.numbers.now) e
    ∙ ap (λ (t : List ℕ). (take a.at a.numbers.now ++ t) ++ drop (a.at + length a.sizes.now) a.numbers.now) (take-length a.sizes.now)
