-- `records::score_bits` meets its contract, case by case.
use mathlib.Core.Path.{sym, ap, ◌∙◌}
use Rattle.exports.specs.Records.{score_bits}
use Rattle.exports.proofs.records.score_bits.Goals as goal

pub returns-in-Z : goal.returns-in-Z
returns-in-Z c = c.pattern.ensures ∙ ap score_bits (sym c.in-Z.is)
