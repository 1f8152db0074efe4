-- `records::write_evaluated` meets its contract: three stores.
use mathlib.Core.Path.{ap, ◌∙◌}
use mathlib.Core.List.{[], ◌∷◌}
use Prim.Native.Nat.{ℕ}
use native.Mathlib.Omega.{arith}
use lib.ListN.{length-set}
use Rattle.exports.specs.Records.{score_case, written}
use Rattle.exports.proofs.Writing.{three}
use Rattle.exports.proofs.records.write_evaluated.Goals as goal

pub bounds-numbers-1 : goal.bounds-numbers-1
bounds-numbers-1 c = simp length-set (omega arith)

pub returns : goal.returns
returns c =
    let a = c.args in
    three a.numbers.now a.evaluated.positive c.score_case.result c.score_bits.result c.requires
    ∙ ap (λ (x : ℕ). written (a.evaluated.positive ∷ x ∷ c.score_bits.result ∷ []) a.numbers.now) c.score_case.ensures
    ∙ ap (λ (x : ℕ). written (a.evaluated.positive ∷ score_case a.evaluated.score ∷ x ∷ []) a.numbers.now) c.score_bits.ensures
