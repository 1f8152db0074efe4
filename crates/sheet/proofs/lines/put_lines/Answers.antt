-- `lines::put_lines` meets its contract: each line stands after the one before.
use Prim.Native.Nat.{ℕ, ◌+◌, ◌*◌, ◌≤◌}
use mathlib.Core.List.{List}
use mathlib.Core.Path.{◌≡◌, ap, ◌∙◌}
use native.Mathlib.Omega.{arith}
use lib.ListN.{length}
use Rattle.sheet.specs.Columns.{line}
use Rattle.counting.specs.Buffer.{put}
use Rattle.sheet.proofs.Writing.{lines_put}
use Rattle.sheet.proofs.lines.put_lines.Goals as goal

pub returns : goal.returns
returns c =
    let a = c.args in
    let m = c.put_line-first.result in
    let n = c.put_line-second.result in
    let p : m ≡ 49 = omega (arith, c.put_line-first.ensures.value, c.requires) in
    let q : n ≡ m + 8 * length a.bits.now + 1 = c.put_line-second.ensures.value in
    let fits : n ≤ length a.out.now = omega (arith, c.requires) in record {
      value = omega (arith, c.put_line.ensures.value, c.requires);
      out_after = c.put_line.ensures.out_after
          ∙ ap (λ (o : List ℕ). put o n (line 20 a.patterns.now))
          (c.put_line-second.ensures.out_after ∙ ap (λ (o : List ℕ). put o m (line 8 a.bits.now)) c.put_line-first.ensures.out_after)
          ∙ lines_put a.out.now a.counts.now a.bits.now a.patterns.now m n p q fits c.requires.counts_len.0;
    }
