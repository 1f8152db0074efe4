-- `columns::put_columns` meets its contract: after i turns the first i characters stand in the buffer.
use Prim.Native.Nat.{ℕ, ◌+◌, ◌<◌}
use mathlib.Core.List.{List}
use mathlib.Core.Path.{◌≡◌, ap, ap₂, ◌∙◌}
use native.Mathlib.Omega.{arith}
use lib.ListN.{length, set, length-set}
use Rattle.counting.specs.Buffer.{put}
use Rattle.sheet.proofs.Writing.{front, front_none, front_more, front_all}
use Rattle.sheet.proofs.columns.put_columns.Goals as goal

pub loop-i-init : goal.loop-i-init
loop-i-init c = (front_none _ c.args.at c.args.width c.args.value, omega arith)

pub loop-i-preserved : goal.loop-i-preserved
loop-i-preserved c =
    let a = c.args in
    let i = c.loop-i.i in
    let room : a.at + i < length a.out.now = omega arith in (
      ap₂ (λ (o : List ℕ) (x : ℕ). set o (a.at + i) x) c.loop-i.invariant.0 c.symbol_at.ensures
          ∙ front_more a.out.now a.at a.width a.value i room,
      simp length-set (omega arith),
    )

pub returns : goal.returns
returns c =
    let a = c.args in
    let all : c.loop-i.i ≡ a.width = omega arith in
    c.loop-i.invariant.0 ∙ ap (λ (i : ℕ). put a.out.now a.at (front a.width a.value i)) all ∙ front_all a.out.now a.at a.width a.value
