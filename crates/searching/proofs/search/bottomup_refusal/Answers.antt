-- `search::bottomup_refusal` meets its contract: the first refusal that applies.
use mathlib.Core.Path.{sym, ap, ◌∙◌}
use native.Mathlib.Omega.{arith}
use Rattle.counting.specs.Refusal.{refusal_of}
use Rattle.counting.proofs.Reasons.{some_number}
use Rattle.sampling.proofs.Refused.{passed_on}
use Rattle.searching.specs.Refusal.{bottomup_refusal}
use Rattle.searching.proofs.Refusing.{or_first, or_next, search_free}
use Rattle.searching.proofs.search.bottomup_refusal.Goals as goal

pub returns-in_err-search_refusal : goal.returns-in_err-search_refusal
unfolding bottomup_refusal
returns-in_err-search_refusal c =
    let is = c.in_err-search_refusal.ensures in
    ap refusal_of (passed_on c.from_residual.result _ c.from_residual.ensures.1) ∙ is ∙ or_first _ _ (λ z. some_number _ (is ∙ z))

pub buffer_refusal-requires : goal.buffer_refusal-requires
buffer_refusal-requires c =
    let a = c.args in
    omega (arith, (search_free a.sampler a.words a.first a.end a.k (sym c.in_ok-search_refusal.ensures)).width)

pub returns : goal.returns
unfolding bottomup_refusal
returns c = c.buffer_refusal.ensures ∙ or_next _ _ (sym c.in_ok-search_refusal.ensures)
