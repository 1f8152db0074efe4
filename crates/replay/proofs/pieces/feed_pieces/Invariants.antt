-- `pieces::feed_pieces` meets its contract: before each turn the feeds that are left lead where all of them lead.
use mathlib.Core.Path.{◌≡◌}
use lib.ListN.{length}
use Rattle.replay.specs.Pieces.{state_of}
use Rattle.replay.proofs.Cutting.{Feeding}
use Rattle.replay.proofs.pieces.feed_pieces.Given as goal

abbrev pub invariant-loop-length : goal.invariant-loop-length
invariant-loop-length l = record {
  lent : length l.words ≡ length l.initial.words;
  feeding : Feeding l.recording l.lengths (state_of l.initial.latest l.initial.words) (state_of l.latest l.words) l.refused l.length-index l.rest;
}
