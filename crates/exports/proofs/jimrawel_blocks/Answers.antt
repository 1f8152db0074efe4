-- `jimrawel_blocks` meets its contract.
use mathlib.Core.Path.{◌≡◌, sym, ap, ◌∙◌}
use borrow.Author.Tests.{eq-eqb, ne_eqb}
use Rattle.sampling.specs.Sampler.{blocks_of}
use Rattle.exports.specs.Samplers.{sampler_unread}
use Rattle.exports.specs.Calls.{blocks_call}
use Rattle.exports.proofs.Asking.{failed, succeeded}
use Rattle.exports.proofs.Calling.{sampler_room_is}
use Rattle.exports.proofs.jimrawel_blocks.Goals.{Else-is_err}
use Rattle.exports.proofs.jimrawel_blocks.Goals as goal

none : (e : Else-is_err) → sampler_unread e.args.sampler.now ≡ 0
none e = sym e.sampler_unread.ensures ∙ succeeded e.sampler_unread.result (sym e.is_err.ensures.value ∙ e.if-is_err.false)

pub returns-then-is_err : goal.returns-then-is_err
unfolding blocks_call
returns-then-is_err c =
    let u = c.sampler_unread in
    simp (ne_eqb _ _ (λ z. failed u.result (sym c.is_err.ensures.value ∙ c.if-is_err.true) (u.ensures ∙ z)))

pub read_head-requires : goal.read_head-requires
read_head-requires c = sampler_room_is _ (none c)

pub returns : goal.returns
unfolding blocks_call
returns c =
    simp (eq-eqb _ _ (none (goal.at.returns c).Else-is_err)) (c.blocks-2.ensures ∙ ap blocks_of c.read_head.ensures)
