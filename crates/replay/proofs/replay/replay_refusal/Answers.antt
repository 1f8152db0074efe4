-- `replay::replay_refusal` meets its contract: the first refusal that applies.
use mathlib.Core.Path.{◌≡◌, sym, ap, ◌∙◌}
use mathlib.Core.Bool.{true}
use native.Mathlib.Omega.{arith}
use lib.Dec.{eqb}
use Rattle.counting.specs.Block.{valid_size}
use Rattle.counting.specs.Refusal.{refusal_of}
use Rattle.counting.specs.Sample.{total}
use Rattle.counting.proofs.Reasons.{some_number}
use Rattle.sampling.proofs.Refused.{passed_on}
use Rattle.searching.specs.Refusal.{width_refusal, buffer_refusal}
use Rattle.searching.proofs.Refusing.{or_first, or_next, width_free}
use Rattle.replay.specs.Replay.{replay_refusal}
use Rattle.replay.proofs.replay.replay_refusal.Goals.{Else-not-adds_up, Else-not-valid_block_size}
use Rattle.replay.proofs.replay.replay_refusal.Goals as goal

-- what the tests that were passed tell
added : (e : Else-not-adds_up) → eqb (total e.args.lengths.now) e.args.recording ≡ true
added e = sym e.adds_up.ensures ∙ e.if-not-adds_up.false

valid : (e : Else-not-valid_block_size) → valid_size e.args.block_size ≡ true
valid e = sym e.valid_block_size.ensures ∙ e.if-not-valid_block_size.false

pub returns-then-not-adds_up : goal.returns-then-not-adds_up
unfolding replay_refusal
returns-then-not-adds_up c = simp (sym c.adds_up.ensures ∙ c.if-not-adds_up.true)

pub returns-then-not-valid_block_size : goal.returns-then-not-valid_block_size
unfolding replay_refusal
returns-then-not-valid_block_size c = simp (added (goal.at.returns-then-not-valid_block_size c).Else-not-adds_up, sym c.valid_block_size.ensures ∙ c.if-not-valid_block_size.true)

pub returns-in_err-width_refusal : goal.returns-in_err-width_refusal
unfolding replay_refusal
returns-in_err-width_refusal c =
    let a = c.args in
    let is = c.in_err-width_refusal.ensures in
    simp (added (goal.at.returns-in_err-width_refusal c).Else-not-adds_up, valid (goal.at.returns-in_err-width_refusal c).Else-not-valid_block_size)
    (ap refusal_of (passed_on c.from_residual.result _ c.from_residual.ensures.1) ∙ is
    ∙ or_first (width_refusal a.block_size a.k) (buffer_refusal a.k a.bins a.order) (λ z. some_number _ (is ∙ z)))

pub buffer_refusal-requires : goal.buffer_refusal-requires
buffer_refusal-requires c = omega (arith, width_free _ _ (sym c.in_ok-width_refusal.ensures))

pub returns : goal.returns
unfolding replay_refusal
returns c =
    simp (added (goal.at.returns c).Else-not-adds_up, valid (goal.at.returns c).Else-not-valid_block_size)
    (c.buffer_refusal.ensures ∙ or_next _ _ (sym c.in_ok-width_refusal.ensures))
