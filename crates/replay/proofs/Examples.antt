-- The worked examples, computed.
use mathlib.Core.Path.{refl}
use Rattle.counting.specs.Block.{valid_size}
use Rattle.searching.specs.Refusal.{width_refusal, buffer_refusal}
use Rattle.subsets.specs.Bits.{valid_width}
use Rattle.counting.specs.Sample.{total}
use Rattle.sampling.specs.Boards.{changed, board_refusal, taken, boards_after, refusals_from, carried}
use Rattle.sampling.specs.Cut.{whole, rest}
use Rattle.sampling.specs.Earlier.{held_from, piece_refusals}
use Rattle.replay.specs.Pieces.{cut, refused_in}
use Rattle.replay.specs.Replay.{replay_refusal}
use Rattle.replay.specs.Examples.{Examples}

pub examples : Examples
unfolding cut total refused_in refusals_from board_refusal boards_after taken changed carried whole rest held_from piece_refusals replay_refusal valid_size valid_width width_refusal buffer_refusal
examples = record {
  pieces = refl;
  full = refl;
  leaves = refl;
  past = refl;
  wraps = refl;
  block = refl;
  width = refl;
  wide = refl;
  short = refl;
  none = refl;
}
