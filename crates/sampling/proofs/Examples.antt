-- The worked examples compute.
use mathlib.Core.Path.{refl}
use Rattle.sampling.specs.Boards.{changed, board_refusal, taken, boards_after, boards_from, refusals_from, carried}
use Rattle.sampling.specs.Cut.{whole, rest}
use Rattle.sampling.specs.Earlier.{piece_refusal, held_after, held_from, piece_refusals}
use Rattle.sampling.specs.Examples.{BoardExamples}

pub board_examples : BoardExamples
unfolding changed board_refusal taken boards_after boards_from refusals_from carried whole rest piece_refusal held_after held_from piece_refusals
board_examples = (refl, refl, refl, refl, refl)
