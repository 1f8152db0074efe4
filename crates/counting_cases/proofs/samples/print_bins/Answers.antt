-- `samples::print_bins` is safe: there is room for 2 ^ 10 bins.
use Rattle.std.proofs.Common.{◌≡◌, ℕ, ◌^◌, ◌≤◌, ◌∙◌, List, ap, arith, sym, length, replicate}
use Rattle.std.proofs.Math.Pow.{pow_mono}
use Rattle.std.proofs.lemmas.List.{length-replicate, length-take-le}
use Rattle.counting_cases.proofs.samples.print_bins.Goals as goal

-- at most 2 ^ 10, as many as there are
few : (k n : ℕ) (bins : List ℕ) → k ≤ 10 → n ≡ 2 ^ k → bins ≡ replicate 1024 0 → n ≤ length bins
few k n bins small value filled =
    let h : 2 ^ k ≤ 2 ^ 10 = pow_mono {j = 10} small in
    let room : length bins ≡ 1024 = ap length filled ∙ length-replicate {A = ℕ} 1024 0 in
    omega arith

pub slice_bounds-bins-end : goal.slice_bounds-bins-end
slice_bounds-bins-end c = few _ _ _ c.requires.countable.1 c.bin_count.ensures c.filled-bins.ensures

pub slice_bounds-bins-end-2 : goal.slice_bounds-bins-end-2
slice_bounds-bins-end-2 c = sym (length-take-le _ _ (few _ _ _ c.requires.countable.1 c.bin_count.ensures c.filled-bins.ensures))

pub multi_eval_neg-requires-clause-in_bounds : goal.multi_eval_neg-requires-clause-in_bounds
multi_eval_neg-requires-clause-in_bounds c = (
  c.requires.countable.0,
  omega arith,
  length-take-le _ _ (few _ _ _ c.requires.countable.1 c.bin_count.ensures c.filled-bins.ensures) ∙ c.bin_count.ensures,
)
