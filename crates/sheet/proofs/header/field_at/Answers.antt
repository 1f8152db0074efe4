-- `header::field_at` meets its contract: after i turns n is what the first i columns make.
use Prim.Native.Nat.{ℕ, ◌+◌, ◌*◌, ◌≤◌}
use mathlib.Core.Path.{◌≡◌, refl, ap₂, sym, ◌∙◌}
use native.Mathlib.Omega.{arith}
use Rattle.sheet.specs.Header.{read_to}
use Rattle.sheet.proofs.Reading.{read_more, read_small}
use Rattle.sheet.proofs.header.field_at.Goals as goal

pub loop-i-init : goal.loop-i-init
unfolding read_to
loop-i-init c = (refl, omega arith)

pub loop-i-preserved : goal.loop-i-preserved
loop-i-preserved c =
    let a = c.args in
    let i = c.loop-i.i in
    let more : 10 * c.loop-i.n + c.digit_of.result ≡ read_to a.input.now a.at (i + 1) =
    ap₂ (λ (n x : ℕ). 10 * n + x) c.loop-i.invariant.0 c.digit_of.ensures.value ∙ sym (read_more a.input.now a.at i) in
    let next : i + 1 ≤ 6 = omega arith in
    (more, omega (arith, read_small a.input.now a.at (i + 1) next))
