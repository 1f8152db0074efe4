-- `jimrawel_compute_index` meets its contract: the rank is written, the refusal returned.
use mathlib.Core.Path.{ap, ◌∙◌}
use Rattle.subsets.specs.Rank.{Ranked}
use Rattle.exports.proofs.Asking.{ranked_is}
use Rattle.exports.proofs.jimrawel_compute_index.Goals as goal

pub returns : goal.returns
returns c =
    let x = c.rank_of-ranked in
    let i = ranked_is x.result in (
      c.refusal_of-refusal.ensures ∙ i.0 ∙ ap (λ (r : Ranked). r.refusal) x.ensures,
      c.unwrap_or.ensures ∙ i.1 ∙ ap (λ (r : Ranked). r.rank) x.ensures,
    )
