-- `judgement::number_of` meets its contract: the pattern is NaN's.
use mathlib.Core.Path.{◌≡◌, refl, sym, ap, ◌∙◌}
use lib.Ieee.{binary64, of_bits, nan}
use Rattle.judging.specs.Evaluation.{score_number}
use Rattle.sheet.proofs.judgement.number_of.Goals as goal

no_number : of_bits binary64 9221120237041090560 ≡ nan
unfolding of_bits
no_number = refl

pub returns-in-NoSample : goal.returns-in-NoSample
returns-in-NoSample c = no_number ∙ ap score_number (sym c.in-NoSample.is)
