-- `columns::put_fields` meets its contract: after i turns the first i numbers stand in the buffer.
use Prim.Native.Nat.{ℕ, ◌<◌}
use mathlib.Core.List.{List}
use mathlib.Core.Path.{◌≡◌, ap₂, ◌∙◌}
use native.Mathlib.Nat.{mul-zero}
use native.Mathlib.Omega.{arith}
use lib.ListN.{length, get_or}
use Rattle.sheet.specs.Columns.{columns}
use Rattle.counting.specs.Buffer.{put}
use Rattle.sheet.proofs.Writing.{fields_none, fields_next, place_more}
use Rattle.sheet.proofs.columns.put_fields.Goals as goal

pub loop-value-init : goal.loop-value-init
loop-value-init c = let a = c.args in (fields_none _ a.at a.width a.values.now, omega (arith, mul-zero a.width), omega arith)

pub loop-value-preserved : goal.loop-value-preserved
loop-value-preserved c =
    let a = c.args in
    let i = c.loop-value.value-index in
    let o = a.out.now in
    let ns = a.values.now in
    let here : i < length ns = omega arith in
    let put-here : c.put_columns.new.out ≡ put c.loop-value.out c.loop-value.to (columns a.width (get_or ns i 0)) = c.put_columns.ensures in (
      put-here
          ∙ ap₂ (λ (s : List ℕ) (m : ℕ). put s m (columns a.width (get_or ns i 0))) c.loop-value.invariant.0 c.loop-value.invariant.1
          ∙ fields_next o a.at a.width ns i here c.requires,
      omega (arith, place_more a.at a.width i),
      omega (arith, c.put_columns.auto.out),
    )
