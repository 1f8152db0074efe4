-- `columns::put_line` meets its contract: the numbers, and a newline after them.
use Prim.Native.Nat.{ℕ, ◌+◌, ◌<◌}
use mathlib.Core.List.{List}
use mathlib.Core.Path.{ap, ◌∙◌}
use native.Mathlib.Omega.{arith}
use lib.ListN.{length, set}
use Rattle.sheet.proofs.Writing.{line_end}
use Rattle.sheet.proofs.columns.put_line.Goals as goal

pub returns : goal.returns
returns c =
    let a = c.args in
    let p = c.put_fields-end in
    let room : p.result < length a.out.now = omega (arith, p.ensures.value, c.requires) in record {
      value = ap (λ (m : ℕ). m + 1) p.ensures.value;
      out_after = ap (λ (o : List ℕ). set o p.result 10) p.ensures.out_after ∙ line_end a.out.now a.at a.width a.values.now p.result p.ensures.value room;
    }
