-- `header::is_field` meets its contract, by what the two calls promise.
use Prim.Native.Nat.{ℕ}
use mathlib.Core.Path.{ap, ◌∙◌}
use Rattle.sheet.specs.Header.{match_to}
use Rattle.sheet.proofs.header.is_field.Goals as goal

pub returns : goal.returns
returns c =
    let a = c.args in
    c.is_written.ensures ∙ ap (λ (n : ℕ). match_to a.input.now a.at 6 n 6) c.field_at-n.ensures
