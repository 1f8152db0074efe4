-- `lines::put_refusal` meets its contract: a line of 9 bytes, or none.
use Prim.Native.Nat.{◌≤◌, ◌<◌}
use mathlib.Core.List.{[], ◌∷◌}
use mathlib.Core.Path.{◌≡◌, sym, ◌∙◌}
use native.Mathlib.Omega.{arith}
use Rattle.std.proofs.Common.{rules}
use lib.ListN.{length}
use Rattle.counting.specs.Refusal.{number_of}
use Rattle.sheet.specs.Columns.{line}
use Rattle.sheet.proofs.Writing.{length_line, printed, unprinted}
use Rattle.sheet.proofs.lines.put_refusal.Goals as goal

pub returns-then-out-lt9 : goal.returns-then-out-lt9
returns-then-out-lt9 c =
    let a = c.args in
    let long : length a.out.now < length (line 8 (number_of a.refusal ∷ [])) = omega (arith, length_line 8 (number_of a.refusal ∷ [])) in
    unprinted (line 8 (number_of a.refusal ∷ [])) a.out.now long

pub returns : goal.returns
returns c =
    let p = c.put_line in
    let a = c.args in
    let s = line 8 (number_of a.refusal ∷ []) in
    let size : p.result ≡ length s = p.ensures.value ∙ sym (length_line 8 (number_of a.refusal ∷ [])) in
    let fits : length s ≤ length a.out.now = omega (arith, length_line 8 (number_of a.refusal ∷ [])) in
    let value : c.match-refusal.value ≡ number_of a.refusal = search rules in
    rw (size, p.ensures.out_after, value) (printed s a.out.now fits)
