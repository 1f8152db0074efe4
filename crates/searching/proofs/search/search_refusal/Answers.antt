-- `search::search_refusal` meets its contract: the sampler's refusal before the stretch's, and that before the width's.
use mathlib.Core.Path.{◌≡◌, sym, ap, ◌∙◌}
use Rattle.counting.specs.Refusal.{refusal_of}
use Rattle.counting.proofs.Reasons.{some_number}
use Rattle.sampling.specs.Sampler.{sampler_refusal}
use Rattle.sampling.proofs.Refused.{passed_on}
use Rattle.searching.specs.Refusal.{search_refusal}
use Rattle.searching.proofs.Refusing.{or_first, or_next}
use Rattle.searching.proofs.search.search_refusal.Goals.{In_ok-sampler_refusal}
use Rattle.searching.proofs.search.search_refusal.Goals as goal

none : (e : In_ok-sampler_refusal) → sampler_refusal e.args.sampler e.args.words ≡ 0
none e = sym e.in_ok-sampler_refusal.ensures

pub returns-in_err-sampler_refusal : goal.returns-in_err-sampler_refusal
unfolding search_refusal
returns-in_err-sampler_refusal c =
    let is = c.in_err-sampler_refusal.ensures in
    ap refusal_of (passed_on c.from_residual.result _ c.from_residual.ensures.1) ∙ is ∙ or_first _ _ (λ z. some_number _ (is ∙ z))

pub returns-in_err-stretch_refusal : goal.returns-in_err-stretch_refusal
unfolding search_refusal
returns-in_err-stretch_refusal c =
    let is = c.in_err-stretch_refusal.ensures in
    ap refusal_of (passed_on c.from_residual-in_err-stretch_refusal.result _ c.from_residual-in_err-stretch_refusal.ensures.1) ∙ is ∙ or_first _ _ (λ z. some_number _ (is ∙ z))
    ∙ or_next _ _ (none (goal.at.returns-in_err-stretch_refusal c).In_ok-sampler_refusal)

pub returns : goal.returns
unfolding search_refusal
returns c =
    c.width_refusal.ensures ∙ or_next _ _ (sym c.in_ok-stretch_refusal.ensures) ∙ or_next _ _ (none (goal.at.returns c).In_ok-sampler_refusal)
