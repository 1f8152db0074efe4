-- `samplers::carry_unread` meets its contract: the lengths first, then the bit order.
use mathlib.Core.Path.{◌≡◌, sym, ap, ◌∙◌}
use mathlib.Core.Bool.{true}
use native.Mathlib.Omega.{arith}
use lib.Dec.{leb}
use lib.ListN.{length}
use borrow.Author.Tests.{leb-true, eq-eqb, ne_eqb}
use Rattle.counting.specs.Refusal.{refusal_of}
use Rattle.counting.proofs.Reasons.{some_number}
use Rattle.sampling.proofs.Refused.{passed_on}
use Rattle.exports.specs.Samplers.{carry_unread}
use Rattle.exports.proofs.Asking.{is_enough, is_short, room_short}
use Rattle.exports.proofs.samplers.carry_unread.Goals.{In_ok-enough}
use Rattle.exports.proofs.samplers.carry_unread.Goals as goal

long : (e : In_ok-enough) → leb 4 (length e.args.earlier.now) ≡ true
long e = is_enough _ _ e.in_ok-enough.ensures

pub returns-in_err-enough : goal.returns-in_err-enough
unfolding carry_unread
returns-in_err-enough c =
    let s = is_short _ _ _ c.in_err-enough.ensures in
    ap refusal_of (passed_on _ _ c.from_residual.ensures.1) ∙ simp s.0 s.1

pub returns-in_err-sampler_room : goal.returns-in_err-sampler_room
unfolding carry_unread
returns-in_err-sampler_room c =
    let is = c.in_err-sampler_room.ensures in
    ap refusal_of (passed_on _ _ c.from_residual-in_err-sampler_room.ensures.1)
    ∙ simp (long (goal.at.returns-in_err-sampler_room c).In_ok-enough, ne_eqb _ _ (λ z. some_number _ (is ∙ z))) (room_short _ _ _ is)

pub bounds-earlier-3 : goal.bounds-earlier-3
bounds-earlier-3 c = omega (arith, leb-true _ _ (long (goal.at.bounds-earlier-3 c).In_ok-enough))

pub returns : goal.returns
unfolding carry_unread
returns c =
    simp (long (goal.at.returns c).In_ok-enough, eq-eqb _ _ (sym c.in_ok-sampler_room.ensures)) c.order_unread.ensures
