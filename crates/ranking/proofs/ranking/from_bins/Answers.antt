-- `ranking::from_bins` meets its contract: the first 2 ^ k entries are lent to the sort and to the division, the others stay.
use mathlib.Core.Path.{◌≡◌, sym, ap, ◌∙◌}
use Prim.Native.Nat.{ℕ, ◌^◌, ◌≤◌}
use native.Mathlib.Omega.{arith}
use mathlib.Core.List.{List, ◌++◌}
use lib.Pow.{pow_mono}
use lib.ListN.{length, take, drop}
use lib.Seq.{length-take-le, take_at}
use Rattle.ranking.specs.Order.{order_of}
use Rattle.counting.specs.Sample.{total}
use Rattle.ranking.specs.Ranking.{score_of}
use Rattle.ranking.proofs.ranking.from_bins.Goals as goal

first_length : (l : List ℕ) (m k : ℕ) → m ≡ 2 ^ k → 2 ^ k ≤ length l → length (take m l) ≡ m
first_length l m k e h = length-take-le m l (omega arith)

pub slice_bounds-order_bins-end : goal.slice_bounds-order_bins-end
slice_bounds-order_bins-end c =
    let b = c.bin_count-m in
    sym (first_length c.args.bins.now b.result c.args.k b.ensures c.requires.1)

pub slice_bounds-order_bins-end-3 : goal.slice_bounds-order_bins-end-3
slice_bounds-order_bins-end-3 c =
    let b = c.bin_count-m in
    sym (first_length c.args.order.now b.result c.args.k b.ensures c.requires.2)

pub order_bins-requires : goal.order_bins-requires
order_bins-requires c =
    let b = c.bin_count-m in
    let e = first_length c.args.bins.now b.result c.args.k b.ensures c.requires.1 in
    let h : 2 ^ c.args.k ≤ 2 ^ 20 = pow_mono {j = 20} c.requires.0 in
    (first_length c.args.order.now b.result c.args.k b.ensures c.requires.2 ∙ sym e, omega (arith, b.ensures))

pub slice_bounds-divide-end : goal.slice_bounds-divide-end
slice_bounds-divide-end c =
    let b = c.bin_count-m in
    sym (first_length c.args.bins.now b.result c.args.k b.ensures c.requires.1)

pub slice_bounds-divide-end-3 : goal.slice_bounds-divide-end-3
slice_bounds-divide-end-3 c =
    let b = c.bin_count-m in
    let r = c.order_bins in
    let e = r.auto.order ∙ first_length c.args.order.now b.result c.args.k b.ensures c.requires.2 in
    sym (ap length (take_at r.new.order (drop b.result c.args.order.now) b.result e) ∙ e)

pub divide-requires : goal.divide-requires
divide-requires c =
    let b = c.bin_count-m in
    let r = c.order_bins in
    let e = r.auto.order ∙ first_length c.args.order.now b.result c.args.k b.ensures c.requires.2 in (
      c.requires.0,
      first_length c.args.bins.now b.result c.args.k b.ensures c.requires.1 ∙ b.ensures,
      ap (λ (m : ℕ). total (take m c.args.bins.now)) b.ensures ∙ c.requires.3,
      take_at r.new.order (drop b.result c.args.order.now) b.result e ∙ r.ensures,
      c.requires.4,
    )

pub returns : goal.returns
returns c =
    let b = c.bin_count-m in
    let r = c.order_bins in (
      c.divide.ensures ∙ ap (λ (m : ℕ). score_of c.args.n c.args.k (take m c.args.bins.now)) b.ensures,
      ap (λ (s : List ℕ). s ++ drop b.result c.args.order.now) r.ensures
          ∙ ap (λ (m : ℕ). order_of (take m c.args.bins.now) ++ drop m c.args.order.now) b.ensures,
    )
