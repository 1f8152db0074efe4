-- `samplers::sampler_unread` meets its contract: the length first, then the bit order.
use mathlib.Core.Path.{ap, ◌∙◌}
use native.Mathlib.Omega.{arith}
use borrow.Author.Tests.{leb-true}
use Rattle.counting.specs.Refusal.{refusal_of}
use Rattle.sampling.proofs.Refused.{passed_on}
use Rattle.exports.specs.Samplers.{sampler_unread}
use Rattle.exports.proofs.Asking.{is_enough, is_short}
use Rattle.exports.proofs.samplers.sampler_unread.Goals as goal

pub returns-in_err-enough : goal.returns-in_err-enough
unfolding sampler_unread
returns-in_err-enough c =
    let s = is_short _ _ _ c.in_err-enough.ensures in
    ap refusal_of (passed_on _ _ c.from_residual.ensures.1) ∙ simp s.0 s.1

pub bounds-numbers-3 : goal.bounds-numbers-3
bounds-numbers-3 c = omega (arith, leb-true _ _ (is_enough _ _ c.in_ok-enough.ensures))

pub returns : goal.returns
unfolding sampler_unread
returns c = simp (is_enough _ _ c.in_ok-enough.ensures) c.order_unread.ensures
