-- `ranking::divide` meets its contract. The invariant: best is the best of the divisions before i, and c the sum of the first i - 1 counts in bin order.
use mathlib.Core.Path.{◌≡◌, refl, sym, ap, ap₂, ◌∙◌, subst}
use Prim.Native.Nat.{ℕ, suc, ◌+◌, ◌-◌, ◌^◌, ◌≤◌, ◌<◌}
use native.Mathlib.Omega.{arith}
use mathlib.Core.List.{List}
use lib.Pow.{pow_pos, pow_mono}
use lib.ListN.{length, get_or, take}
use lib.Ieee.{Float, lt, of_bits}
use Rattle.scoring.specs.Halves.{part}
use Rattle.scoring.specs.Score.{z_score, abs}
use Rattle.ranking.specs.Order.{order_of, BinsBelow}
use Rattle.ranking.specs.Peak.{better, peak}
use Rattle.counting.specs.Sample.{total}
use Rattle.ranking.specs.Ranking.{in_bin_order, size_at, zero_score, as_ranking, as_peak, score_of}
use Rattle.ranking.specs.declared.ranking.Ranking.{Ranking}
use Rattle.ranking.proofs.Totals.{order_length, order_below, sum_more, sum_most}
use Rattle.ranking.proofs.ranking.divide.Goals.{After-count_at-c}
use Rattle.ranking.proofs.ranking.divide.Goals as goal

-- one more division: where the best of i divisions, the sum and the size are right, so is the better of the two
more : (n k : ℕ) (ordered : List ℕ) (i j c : ℕ) (best r : Ranking) (z : Float) → j ≡ suc i → best ≡ as_ranking (peak lt zero_score (size_at n k ordered) i)
    → c ≡ total (take j ordered) → z ≡ abs (z_score n c (part j k)) → r ≡ as_ranking (better (lt best.z z) j z (as_peak best))
    → r ≡ as_ranking (peak lt zero_score (size_at n k ordered) j)
unfolding peak size_at
more n k ordered i j c best r z J B C Z R =
    R ∙ ap₂ (λ (b : Ranking) (y : Float). as_ranking (better (lt b.z y) j y (as_peak b))) B (Z ∙ ap (λ (x : ℕ). abs (z_score n x (part j k))) C)
    ∙ ap (λ (x : ℕ). as_ranking (better (lt (peak lt zero_score (size_at n k ordered) i).value (size_at n k ordered x)) x (size_at n k ordered x) (peak lt zero_score (size_at n k ordered) i))) J
    ∙ ap (λ (x : ℕ). as_ranking (peak lt zero_score (size_at n k ordered) x)) (sym J)

-- a turn adds the count at place i of the order
added : (bins order : List ℕ) (i c : ℕ) → order ≡ order_of bins → c ≡ total (take i (in_bin_order bins)) → i < length bins
    → c + get_or bins (get_or order i 0) 0 ≡ total (take (suc i) (in_bin_order bins))
added bins order i c O C h = ap₂ (λ (x : ℕ) (s : List ℕ). x + get_or bins (get_or s i 0) 0) C O ∙ sum_more bins i h

pub loop-i-init : goal.loop-i-init
unfolding peak total of_bits
loop-i-init c = (refl, refl)

pub overflow_cast-division : goal.overflow_cast-division
overflow_cast-division c =
    let p : 2 ^ c.args.k ≤ 2 ^ 20 = pow_mono {j = 20} c.requires.0 in
    omega (arith, c.requires.1)

pub count_at-c-requires : goal.count_at-c-requires
count_at-c-requires c =
    let e : length c.args.order.now ≡ length c.args.bins.now = ap length c.requires.3 ∙ order_length c.args.bins.now in
    (omega arith, subst (BinsBelow (length c.args.bins.now)) (sym c.requires.3) (order_below c.args.bins.now))

-- the sum after this turn
next : (c : After-count_at-c) → c.loop-i.c + c.count_at-c.result ≡ total (take c.loop-i.i (in_bin_order c.args.bins.now))
next c =
    let b = c.args.bins.now in
    let i = c.loop-i.i in
    let e : suc (i - 1) ≡ i = omega arith in
    ap (λ (x : ℕ). c.loop-i.c + x) c.count_at-c.ensures
    ∙ added b c.args.order.now (i - 1) c.loop-i.c c.requires.3 c.loop-i.invariant.1 (omega arith)
    ∙ ap (λ (j : ℕ). total (take j (in_bin_order b))) e

pub overflow_add-c : goal.overflow_add-c
overflow_add-c c = omega (arith, next c, sum_most c.args.bins.now c.loop-i.i, c.requires.2)

pub loop-i-preserved : goal.loop-i-preserved
loop-i-preserved c =
    let a = c.args in
    let o = in_bin_order a.bins.now in
    let i = c.loop-i.i in
    let e : i ≡ i + 1 - 1 = omega arith in
    let s = next (goal.at.loop-i-preserved c).After-count_at-c in
    let m = more a.n a.k o (i - 1) i (c.loop-i.c + c.count_at-c.result) c.loop-i.best c.better-best.result c.size_at.result (omega arith) c.loop-i.invariant.0 s c.size_at.ensures c.better-best.ensures in (
      subst (λ (x : ℕ). c.better-best.result ≡ as_ranking (peak lt zero_score (size_at a.n a.k o) x)) e m,
      subst (λ (x : ℕ). c.loop-i.c + c.count_at-c.result ≡ total (take x o)) e s,
    )

pub returns : goal.returns
unfolding score_of
returns c =
    let p : 0 < 2 ^ c.args.k = pow_pos c.args.k in
    let e : c.loop-i.i - 1 ≡ 2 ^ c.args.k - 1 = omega (arith, c.requires.1) in
    c.loop-i.invariant.0 ∙ ap (λ (i : ℕ). as_ranking (peak lt zero_score (size_at c.args.n c.args.k (in_bin_order c.args.bins.now)) i)) e
