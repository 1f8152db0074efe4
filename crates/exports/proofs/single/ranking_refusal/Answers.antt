-- `single::ranking_refusal` meets its contract: each return has the tests that led there.
use mathlib.Core.Path.{◌≡◌, sym, ap, subst, ◌∙◌}
use mathlib.Core.Bool.{true}
use Prim.Native.Nat.{ℕ, ◌^◌, ◌≤◌, ◌<◌}
use native.Mathlib.Omega.{arith}
use lib.ListN.{length, take}
use lib.Pow.{pow_mono}
use borrow.Author.Tests.{leb-true, leb-false}
use Rattle.counting.specs.Refusal.{refusal_of}
use Rattle.counting.specs.Sample.{total}
use Rattle.counting.proofs.Reasons.{some_number}
use Rattle.sampling.proofs.Refused.{passed_on}
use Rattle.subsets.specs.Bits.{valid_width}
use Rattle.subsets.proofs.Refusing.{width_bounds}
use Rattle.searching.specs.Refusal.{buffer_refusal}
use Rattle.searching.proofs.Refusing.{buffer_free}
use Rattle.exports.proofs.Asking.{is_enough, is_short}
use Rattle.exports.proofs.Alone.{no_record, no_width, no_buffer, too_many, none}
use Rattle.exports.proofs.single.ranking_refusal.Goals.{After-total_of, Else-not-valid_width, In_ok-buffer_refusal, In_ok-enough}
use Rattle.exports.proofs.single.ranking_refusal.Goals as goal

-- past the test of the width
wide : (e : Else-not-valid_width) → valid_width e.args.k ≡ true
wide e = sym e.valid_width.ensures ∙ e.if-not-valid_width.false

-- .. and past that of the buffers
room : (e : In_ok-buffer_refusal) → let a = e.args in buffer_refusal a.k (length a.bins.now) a.order ≡ 0
room e = sym e.in_ok-buffer_refusal.ensures

-- the sum is that of 2 ^ k counts
summed : (c : After-total_of) → let a = c.args in c.total_of.result ≡ total (take (2 ^ a.k) a.bins.now)
summed c =
    c.total_of.ensures ∙ ap (λ (m : ℕ). total (take m c.args.bins.now)) c.bin_count.ensures

two : (e : In_ok-enough) → 2 ≤ e.args.ranking
two e = leb-true _ _ (is_enough _ _ e.in_ok-enough.ensures)

pub returns-in_err-enough : goal.returns-in_err-enough
returns-in_err-enough c =
    let a = c.args in
    let s = is_short _ _ _ c.in_err-enough.ensures in
    ap refusal_of (passed_on _ _ c.from_residual.ensures.1) ∙ s.1 ∙ no_record a.k a.bins.now a.order a.ranking (leb-false _ _ s.0)

pub returns-then-not-valid_width : goal.returns-then-not-valid_width
returns-then-not-valid_width c =
    let a = c.args in
    no_width a.k a.bins.now a.order a.ranking (two (goal.at.returns-then-not-valid_width c).In_ok-enough) (sym c.valid_width.ensures ∙ c.if-not-valid_width.true)

pub buffer_refusal-requires : goal.buffer_refusal-requires
buffer_refusal-requires c = omega (arith, (width_bounds _ (wide c)).1)

pub returns-in_err-buffer_refusal : goal.returns-in_err-buffer_refusal
returns-in_err-buffer_refusal c =
    let a = c.args in
    let at = goal.at.returns-in_err-buffer_refusal c in
    ap refusal_of (passed_on _ _ c.from_residual-in_err-buffer_refusal.ensures.1)
    ∙ no_buffer a.k a.bins.now a.order a.ranking (two at.In_ok-enough) (wide at.Else-not-valid_width) _ c.in_err-buffer_refusal.ensures (some_number _)

pub bin_count-requires : goal.bin_count-requires
bin_count-requires c = (width_bounds _ (wide (goal.at.bin_count-requires c).Else-not-valid_width)).1

pub total_of-requires : goal.total_of-requires
total_of-requires c =
    let a = c.args in
    let h : 2 ^ a.k ≤ 2 ^ 20 = pow_mono {j = 20} (width_bounds _ (wide (goal.at.total_of-requires c).Else-not-valid_width)).1 in
    (omega (arith, c.bin_count.ensures, (buffer_free a.k (length a.bins.now) a.order (room (goal.at.total_of-requires c).In_ok-buffer_refusal)).0), omega (arith, c.bin_count.ensures))

pub returns-then-total_of-gt4294967295 : goal.returns-then-total_of-gt4294967295
returns-then-total_of-gt4294967295 c =
    let a = c.args in
    too_many a.k a.bins.now a.order a.ranking (two (goal.at.returns-then-total_of-gt4294967295 c).In_ok-enough) (wide (goal.at.returns-then-total_of-gt4294967295 c).Else-not-valid_width) (room (goal.at.returns-then-total_of-gt4294967295 c).In_ok-buffer_refusal)
    (subst (λ (x : ℕ). 4294967295 < x) (summed (goal.at.returns-then-total_of-gt4294967295 c).After-total_of) c.if-total_of-gt4294967295.true)

pub returns : goal.returns
returns c =
    let a = c.args in
    none a.k a.bins.now a.order a.ranking (two (goal.at.returns c).In_ok-enough) (wide (goal.at.returns c).Else-not-valid_width) (room (goal.at.returns c).In_ok-buffer_refusal)
    (subst (λ (x : ℕ). x ≤ 4294967295) (summed (goal.at.returns c).After-total_of) c.if-total_of-gt4294967295.false)
