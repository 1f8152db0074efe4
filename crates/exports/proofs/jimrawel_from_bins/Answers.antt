-- `jimrawel_from_bins` meets its contract: past the refusals, what from_bins promised of the counts and their sum, its ranking written.
use mathlib.Core.Path.{◌≡◌, sym, ap, ◌∙◌}
use mathlib.Core.List.{[], ◌∷◌}
use Prim.Native.Nat.{ℕ, ◌^◌, ◌≤◌}
use native.Mathlib.Omega.{arith}
use lib.ListN.{length, take, length-set}
use lib.Pow.{pow_mono}
use Rattle.counting.specs.Sample.{total}
use Rattle.ranking.specs.Ranking.{score_of}
use Rattle.exports.specs.Records.{written}
use Rattle.exports.specs.Single.{ranking_refusal}
use Rattle.exports.proofs.Writing.{two}
use Rattle.exports.proofs.Asking.{failed, succeeded}
use Rattle.exports.proofs.Alone.{Rankable, rankable, ranking_refused, ranking_made}
use Rattle.exports.proofs.jimrawel_from_bins.Goals.{After-total_of-n, Else-is_err}
use Rattle.exports.proofs.jimrawel_from_bins.Goals as goal

-- past the refusals
accepted : (e : Else-is_err) → let a = e.args in ranking_refusal a.k a.bins.now (length a.order.now) (length a.ranking.now) ≡ 0
accepted e = sym e.ranking_refusal-unranked.ensures ∙ succeeded e.ranking_refusal-unranked.result (sym e.is_err.ensures.value ∙ e.if-is_err.false)

free : (e : Else-is_err) → let a = e.args in Rankable a.k a.bins.now (length a.order.now) (length a.ranking.now)
free e = rankable _ _ _ _ (accepted e)

-- the sum is that of 2 ^ k counts
summed : (t : After-total_of-n) → let a = t.args in t.total_of-n.result ≡ total (take (2 ^ a.k) a.bins.now)
summed t =
    t.total_of-n.ensures ∙ ap (λ (m : ℕ). total (take m t.args.bins.now)) t.bin_count.ensures

pub returns-then-is_err : goal.returns-then-is_err
returns-then-is_err c =
    let a = c.args in
    let x = c.ranking_refusal-unranked in
    ranking_refused a.k a.bins.now a.order.now a.ranking.now c.refusal_of.result (c.refusal_of.ensures ∙ x.ensures)
    (λ z. failed x.result (sym c.is_err.ensures.value ∙ c.if-is_err.true) (sym c.refusal_of.ensures ∙ z))

pub bin_count-requires : goal.bin_count-requires
bin_count-requires c = (free c).width

pub total_of-n-requires : goal.total_of-n-requires
total_of-n-requires c =
    let f = free (goal.at.total_of-n-requires c).Else-is_err in
    let h : 2 ^ c.args.k ≤ 2 ^ 20 = pow_mono {j = 20} f.width in
    (omega (arith, c.bin_count.ensures, f.room), omega (arith, c.bin_count.ensures))

pub overflow_cast-n : goal.overflow_cast-n
overflow_cast-n c =
    let f = free (goal.at.overflow_cast-n c).Else-is_err in
    record { fits = omega (arith, summed (goal.at.overflow_cast-n c).After-total_of-n, f.small) }

pub from_bins-ranked-requires : goal.from_bins-ranked-requires
from_bins-ranked-requires c =
    let f = free (goal.at.from_bins-ranked-requires c).Else-is_err in
    (f.width, f.room, f.space, sym (summed (goal.at.from_bins-ranked-requires c).After-total_of-n), λ i h l. absurd (omega arith))

pub bounds-ranking-0 : goal.bounds-ranking-0
bounds-ranking-0 c =
    let f = free (goal.at.bounds-ranking-0 c).Else-is_err in
    omega (arith, f.two)

pub bounds-ranking-1 : goal.bounds-ranking-1
bounds-ranking-1 c =
    let f = free (goal.at.bounds-ranking-1 c).Else-is_err in
    simp length-set (omega (arith, f.two))

pub returns : goal.returns
returns c =
    let a = c.args in
    let s = summed (goal.at.returns c).After-total_of-n in
    let x = c.from_bins-ranked.result in
    ranking_made a.k a.bins.now a.order.now a.ranking.now x _ _
    (accepted (goal.at.returns c).Else-is_err)
    (c.from_bins-ranked.ensures.0 ∙ ap (λ (n : ℕ). score_of n a.k (take (2 ^ a.k) a.bins.now)) s)
    c.from_bins-ranked.ensures.1
    (two a.ranking.now x.division c.pattern.result (free (goal.at.returns c).Else-is_err).two
    ∙ ap (λ (z : ℕ). written (x.division ∷ z ∷ []) a.ranking.now) c.pattern.ensures)
