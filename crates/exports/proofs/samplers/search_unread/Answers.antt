-- `samplers::search_unread` meets its contract: the room first, then the record.
use mathlib.Core.Path.{ap, ◌∙◌}
use Rattle.counting.specs.Refusal.{refusal_of}
use Rattle.sampling.proofs.Refused.{passed_on}
use Rattle.exports.specs.Samplers.{search_unread}
use Rattle.exports.proofs.Asking.{is_enough, is_short}
use Rattle.exports.proofs.samplers.search_unread.Goals as goal

pub returns-in_err-enough : goal.returns-in_err-enough
unfolding search_unread
returns-in_err-enough c =
    let s = is_short _ _ _ c.in_err-enough.ensures in
    ap refusal_of (passed_on _ _ c.from_residual.ensures.1) ∙ simp s.0 s.1

pub returns : goal.returns
unfolding search_unread
returns c = simp (is_enough _ _ c.in_ok-enough.ensures) c.sampler_unread.ensures
