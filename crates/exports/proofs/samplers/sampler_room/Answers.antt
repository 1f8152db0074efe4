-- `samplers::sampler_room` meets its contract: the numbers first, then the bytes.
use mathlib.Core.Path.{ap, ◌∙◌}
use Rattle.counting.specs.Refusal.{refusal_of}
use Rattle.sampling.proofs.Refused.{passed_on}
use Rattle.exports.specs.Samplers.{sampler_room}
use Rattle.exports.proofs.Asking.{is_enough, is_short}
use Rattle.exports.proofs.samplers.sampler_room.Goals as goal

pub returns-in_err-enough : goal.returns-in_err-enough
unfolding sampler_room
returns-in_err-enough c =
    let s = is_short _ _ _ c.in_err-enough.ensures in
    ap refusal_of (passed_on _ _ c.from_residual.ensures.1) ∙ simp s.0 s.1

pub returns : goal.returns
unfolding sampler_room
returns c = simp (is_enough _ _ c.in_ok-enough.ensures) c.enough-2.ensures
