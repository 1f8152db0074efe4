-- `judgement::put_judged` meets its contract: the numbers written are those of the judgement.
use mathlib.Core.Path.{refl, sym, ap, ◌∙◌}
use mathlib.Core.List.{List}
use Prim.Native.Nat.{ℕ, ◌+◌, ◌*◌, ◌≤◌}
use native.Mathlib.Omega.{arith}
use lib.ListN.{length}
use lib.Seq.{length-take-le}
use Rattle.counting.proofs.Accepted.{valid_facts}
use Rattle.counting.specs.Buffer.{put}
use Rattle.sheet.proofs.Accepting.{lines_are, lines_length}
use Rattle.sheet.proofs.judgement.put_judged.Goals.{After-bits-1}
use Rattle.sheet.proofs.judgement.put_judged.Goals as goal

width_fits : (c : After-bits-1) → c.args.k
    ≤ length c.wide-bits.result
width_fits c = omega (arith, c.requires.judgeable.trainable.width)

pub nonzero_div-counts : goal.nonzero_div-counts
nonzero_div-counts c = omega (arith, (valid_facts c.args.block_size c.requires.judgeable.trainable.valid).low)

pub nonzero_div-counts-2 : goal.nonzero_div-counts-2
nonzero_div-counts-2 c = omega (arith, (valid_facts c.args.block_size c.requires.judgeable.trainable.valid).low)

pub slice_bounds-put_lines-end-2 : goal.slice_bounds-put_lines-end-2
slice_bounds-put_lines-end-2 c = sym (length-take-le _ c.wide-bits.result (width_fits c))

pub put_lines-requires : goal.put_lines-requires
put_lines-requires c =
    record {
      counts_len = (refl, refl);
      bits_in_bounds = rw (length-take-le _ c.wide-bits.result (width_fits (goal.at.put_lines-requires c).After-bits-1)) c.requires.k_in_bounds;
    }

pub returns : goal.returns
returns c =
    let lined = c.put_lines in
    let a = c.args in
    let bits : List ℕ = c.wide-bits.result in
    let same = lines_are a.block_size a.k a.training.now a.testing.now c.requires.judgeable c.judge-judged.result c.judge-judged.ensures bits c.wide-bits.ensures
    c.pattern.result c.pattern-2.result c.pattern.ensures c.pattern-2.ensures in
    let long = lines_length a.block_size a.k a.training.now a.testing.now c.requires.judgeable in record {
      value = lined.ensures.value ∙ ap (λ (n : ℕ). 91 + 8 * n) (length-take-le a.k bits (width_fits (goal.at.returns c).After-bits-1)) ∙ sym long;
      out_after = lined.ensures.out_after ∙ ap (put a.out.now 0) same;
    }
