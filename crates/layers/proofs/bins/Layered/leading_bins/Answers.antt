-- `Layered::leading_bins` meets its contract: with m - 1 bits taken, the first 2^(m - 1) bins are theirs.
use Prim.Native.Nat.{ℕ, ◌+◌, ◌-◌, ◌^◌, ◌≤◌, ◌<◌}
use mathlib.Core.Path.{◌≡◌, refl, sym, ap, subst, ◌∙◌}
use native.Mathlib.Omega.{arith}
use mathlib.Core.List.{List, []}
use lib.ListN.{length, get_or, take, drop, set, length-set}
use lib.Pow.{pow_pos, pow_mono}
use lib.Seq.{length-take-le, take-take, drop-set-lt, get_or-set_same}
use Rattle.counting.specs.Sample.{count_in}
use Rattle.counting.specs.Stretch.{span, stretch_bit}
use Rattle.layers.specs.Gather.{Tables}
use Rattle.layers.proofs.Leading.{as_many, subset_take, tables_take, none_counted, counts_at, counts_past}
use Rattle.layers.proofs.Parting.{past_larger}
use Rattle.layers.proofs.bins.Layered.leading_bins.Goals as goal

-- the first m bits but the last of them
shorter : (m : ℕ) (bits : List ℕ) → m ≤ length bits → take (m - 1) (take m bits) ≡ take (m - 1) bits
shorter m bits h = take-take (m - 1) m bits (omega arith)

pub loop-m-init : goal.loop-m-init
loop-m-init c =
    let a = c.args in record {
      some = omega arith;
      within = omega (arith, c.requires.subset.size, a.self.now.width);
      part_size = refl;
      bin_size = refl;
      counted = λ v h.
          let z : v ≡ 0 = omega arith in
          ap (λ (x : ℕ). get_or (set a.bins.now 0 c.span.result) x 0) z
          ∙ get_or-set_same a.bins.now 0 c.span.result 0 (omega (arith, pow_pos (length a.bits.now), c.requires.bits_in_bounds.1))
          ∙ c.span.ensures ∙ none_counted (stretch_bit a.self.now.stretch a.self.now.words.now) (span a.self.now.stretch)
          ∙ ap (count_in (stretch_bit a.self.now.stretch a.self.now.words.now) (span a.self.now.stretch) []) (sym z);
      bin_rest = refl;
      part_rest = refl;
    }

pub split_bins-requires : goal.split_bins-requires
split_bins-requires c =
    let a = c.args in
    let B = a.self.now.stretch.block_size in
    let b = a.bits.now in
    let m = c.loop-m.m in
    let w = c.loop-m.invariant in
    let size : length (take m b) ≡ m = length-take-le m b w.within in
    let small : 2 ^ m ≤ 2 ^ length b = pow_mono w.within in
    rw size (record {
      in_bounds = (w.some, omega (arith, w.within, c.requires.subset.size));
      subset = subset_take B m b w.within (as_many B a.self.now.k b c.requires.subset);
      count_value = λ e. absurd (omega (arith, c.loop-m-test.true, c.requires.subset.size));
      tables = tables_take B a.self.now.k m b a.run.now w.within (subst (λ (n : ℕ). Tables B n b a.run.now) c.requires.subset.size c.requires.tables);
      bits_in_bounds = (omega (arith, small, w.part_size, c.requires.bits_in_bounds.0), omega (arith, small, w.bin_size, length-set a.bins.now 0 c.span.result, c.requires.bits_in_bounds.1));
      halved = λ v h. w.counted v h ∙ ap (λ (p : List ℕ). count_in (stretch_bit a.self.now.stretch a.self.now.words.now) (span a.self.now.stretch) p v) (sym (shorter m b w.within));
    })

pub loop-m-preserved : goal.loop-m-preserved
loop-m-preserved c =
    let a = c.args in
    let b = a.bits.now in
    let m = c.loop-m.m in
    let w = c.loop-m.invariant in
    let r = c.split_bins in
    let bit = stretch_bit a.self.now.stretch a.self.now.words.now in
    let n = span a.self.now.stretch in
    let size : length (take m b) ≡ m = length-take-le m b w.within in
    let small : 2 ^ length (take m b) ≤ 2 ^ length b = pow_mono (let h : length (take m b) ≤ length b = omega (arith, w.within) in h) in
    let back : m + 1 - 1 ≡ m = omega arith in record {
      some = omega arith;
      within = omega (arith, c.loop-m-test.true);
      part_size = r.auto.parts ∙ w.part_size;
      bin_size = r.auto.bins ∙ w.bin_size;
      counted = λ v h.
          let below : v < 2 ^ length (take m b) = rw size (rw back at h) in
          ap (λ (x : List ℕ). get_or x v 0) r.ensures.bins_after ∙ counts_at bit n (take m b) (drop (2 ^ length (take m b)) c.loop-m.bins) v below
          ∙ ap (λ (x : ℕ). count_in bit n (take x b) v) (sym back);
      bin_rest = ap (drop (2 ^ length b)) r.ensures.bins_after ∙ counts_past bit n (take m b) c.loop-m.bins (2 ^ length b) small ∙ w.bin_rest;
      part_rest = past_larger (2 ^ length (take m b)) (2 ^ length b) _ c.loop-m.parts small r.ensures.parts_unchanged ∙ w.part_rest;
    }

pub returns : goal.returns
returns c =
    let a = c.args in
    let b = a.bits.now in
    let w = c.loop-m.invariant in
    let e : c.loop-m.m ≡ length b = omega (arith, w.within, c.loop-m-test.false) in record {
      halved = λ v h. rw e at w.counted v h;
      bins_unchanged = w.bin_rest ∙ drop-set-lt (2 ^ length b) a.bins.now 0 c.span.result (pow_pos (length b));
      parts_unchanged = w.part_rest;
    }
