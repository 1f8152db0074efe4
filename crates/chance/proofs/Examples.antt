-- The worked examples compute.
use mathlib.Core.Path.{refl}
use Rattle.counting.specs.Sample.{list_of, sum_to}
use Rattle.subsets.specs.Bits.{valid_width}
use Rattle.chance.specs.Chance.{sum_from, binomial_sum}
use Rattle.chance.specs.Entries.{next_entry, next_row, entries_after}
use Rattle.chance.specs.Bracket.{low_of, roundings, high_of, bracket_refusal, answer_of, bracket_of}
use Rattle.chance.specs.Examples.{BracketExamples}

pub bracket_examples : BracketExamples
unfolding list_of sum_to valid_width sum_from binomial_sum next_entry next_row entries_after low_of roundings high_of bracket_refusal answer_of bracket_of
bracket_examples = (refl, refl, refl, refl, refl, refl, refl, refl, refl, refl, refl, refl, refl)
