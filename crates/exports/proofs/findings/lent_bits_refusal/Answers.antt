-- `findings::lent_bits_refusal` meets its contract: each return rewrites with the answers of the two tests.
use mathlib.Core.Path.{sym, ◌∙◌}
use Rattle.subsets.specs.Bits.{bits_refusal}
use Rattle.exports.proofs.findings.lent_bits_refusal.Goals as goal

pub returns-then-not-lent_increasing : goal.returns-then-not-lent_increasing
unfolding bits_refusal
returns-then-not-lent_increasing c = simp (sym c.lent_increasing.ensures ∙ c.if-not-lent_increasing.true)

pub returns-then-not-lent_within : goal.returns-then-not-lent_within
unfolding bits_refusal
returns-then-not-lent_within c =
    simp (
      sym c.lent_increasing.ensures ∙ c.if-not-lent_increasing.false,
      sym c.lent_within.ensures ∙ c.if-not-lent_within.true,
    )

pub returns : goal.returns
unfolding bits_refusal
returns c =
    simp (
      sym c.lent_increasing.ensures ∙ c.if-not-lent_increasing.false,
      sym c.lent_within.ensures ∙ c.if-not-lent_within.false,
    )
