-- `bits::bits_refusal` meets its contract: each return rewrites with the answers of the two tests.
use mathlib.Core.Path.{sym, ◌∙◌}
use Rattle.subsets.specs.Bits.{bits_refusal}
use Rattle.subsets.proofs.bits.bits_refusal.Goals as goal

pub returns-then-not-increasing : goal.returns-then-not-increasing
unfolding bits_refusal
returns-then-not-increasing c = simp (sym c.increasing.ensures ∙ c.if-not-increasing.true)

pub returns-then-not-within : goal.returns-then-not-within
unfolding bits_refusal
returns-then-not-within c =
    simp (
      sym c.increasing.ensures ∙ c.if-not-increasing.false,
      sym c.within.ensures ∙ c.if-not-within.true,
    )

pub returns : goal.returns
unfolding bits_refusal
returns c =
    simp (
      sym c.increasing.ensures ∙ c.if-not-increasing.false,
      sym c.within.ensures ∙ c.if-not-within.false,
    )
