-- A recording with the low bit first is the recording of the bytes with their bits reversed, with the high bit first.
use Rattle.std.specs.Prelude.{◌≡◌, ℕ, true, false, List, map}
use Rattle.counting.specs.Block.{valid_size}
use Rattle.counting.specs.Reversed.{reversed_bytes}
use Rattle.sampling.specs.Boards.{Feed, boards_of, refusals_of}
use Rattle.sampling.specs.Recorded.{carried_over, fed_all, answers_from}
use Rattle.sampling.specs.declared.sampler.Head.{Head}
use Rattle.sampling.specs.declared.sampler.Sampler.{Sampler}

-- each piece with its bytes reversed
abbrev pub reversed_pieces : List (List ℕ) → List (List ℕ)
reversed_pieces pieces = map reversed_bytes pieces

-- .. and each feed's piece
abbrev pub reversed_feeds : List Feed → List Feed
reversed_feeds feeds = map (λ f. record { board = f.board; piece = reversed_bytes f.piece }) feeds

-- Theorem: the plain recording of reversed pieces and feeds refuses the same, and holds the reversed bytes, the blocks' and each board's.
pub record ReversedRecording (B words : ℕ) (old : List (List ℕ)) (feeds : List Feed) : Type 0 where
  pub refusals : refusals_of B words (reversed_pieces old) (reversed_feeds feeds) ≡ refusals_of B words old feeds
  pub held : (boards_of B words (reversed_pieces old) (reversed_feeds feeds)).held ≡ reversed_bytes (boards_of B words old feeds).held
  pub tails : (board : ℕ) → (boards_of B words (reversed_pieces old) (reversed_feeds feeds)).tail board ≡ reversed_bytes ((boards_of B words old feeds).tail board)

abbrev pub RecordingsReversed : Type 0
RecordingsReversed = (B words : ℕ) (old : List (List ℕ)) (feeds : List Feed) → ReversedRecording B words old feeds

-- the head with the high bit first
abbrev pub high_first : Head → Head
high_first s =
    record { block_size = s.block_size; words = s.words; blocks = s.blocks; low_first = false; lengths = s.lengths }

-- the sampler with the high bit first and its unfinished bytes reversed
abbrev pub mirrored : Sampler → Sampler
mirrored s = record { head = high_first s.head; unfinished = reversed_bytes s.unfinished }

-- Theorem: after a start with the low bit first, or pieces under the earlier rule and a carry-over, and any feeds, what the feeds answered, the words, and the
-- mirrored sampler are those with the high bit first and the reversed pieces and feeds.
pub record ReversedFeeds (B : ℕ) (ws : List ℕ) (old : List (List ℕ)) (feeds : List Feed) : Type 0 where
  pub answers :
      answers_from (carried_over B false ws (reversed_pieces old)) (reversed_feeds feeds) ≡ answers_from (carried_over B true ws old) feeds
  pub words :
      (fed_all (carried_over B false ws (reversed_pieces old)) (reversed_feeds feeds)).words ≡ (fed_all (carried_over B true ws old) feeds).words
  pub sampler :
      (fed_all (carried_over B false ws (reversed_pieces old)) (reversed_feeds feeds)).sampler ≡ mirrored (fed_all (carried_over B true ws old) feeds).sampler

abbrev pub AllReversed : Type 0
AllReversed = (B : ℕ) (ws : List ℕ) → valid_size B ≡ true → (old : List (List ℕ)) (feeds : List Feed) → ReversedFeeds B ws old feeds
