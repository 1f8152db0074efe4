-- What the plain recording of four boards holds, told by the boards: the pieces that were accepted, board by board.
use Rattle.std.specs.Prelude.{◌≡◌, ℕ, ◌*◌, ◌^◌, ◌≤◌, ◌<◌, Bool, true, cond, List, ◌++◌, leb, length, replicate}
use Rattle.counting.specs.Block.{valid_size}
use Rattle.counting.specs.Recording.{block_bytes, capacity, blocks_in, recorded_bit}
use Rattle.counting.specs.Sample.{count_in, counts_of, list_of, sum_to, AgreeBelow}
use Rattle.sampling.specs.Boards.{Boards, Feed, board_refusal, refusals_from, pieces_on, on_board, carried, boards_of, recording, accepted_of}
use Rattle.sampling.specs.Cut.{whole, rest, joined}
use Rattle.sampling.specs.Earlier.{piece_refusals, earlier_recording}

-- the bytes of a board: its pieces put together
abbrev pub bytes_on : ℕ → List Feed → List ℕ
bytes_on board feeds = joined (pieces_on board feeds)

-- bin by bin the sum, over the four boards, of the counts over each board's own bytes
unfoldable pub summed_counts : ℕ → Bool → (ℕ → List ℕ) → List ℕ → List ℕ
summed_counts B low bytes bits =
    list_of (2 ^ length bits) (λ v. sum_to (λ board. count_in (recorded_bit B low (bytes board)) (blocks_in B (bytes board)) bits v) 4)

-- What holds of a recording `st` whose boards' accepted bytes are `bytes`.
pub record Kept (B words : ℕ) (st : Boards) (bytes : ℕ → List ℕ) : Type 0 where
  -- a board's unfinished bytes are those past the whole blocks of its bytes, fewer than a block's
  pub tails : (board : ℕ) → board < 4 → st.tail board ≡ rest B (bytes board)
  pub short : (board : ℕ) → length (st.tail board) < block_bytes B
  -- only whole blocks are held, and within capacity
  pub full : length st.held ≡ blocks_in B st.held * block_bytes B
  pub within : blocks_in B st.held ≤ capacity B words
  -- as many as the four boards completed, and each bin of each subset has as many as it has over the four boards' bytes
  pub number : blocks_in B st.held ≡ sum_to (λ board. blocks_in B (bytes board)) 4
  pub counts :
      (low : Bool) (bits : List ℕ) → counts_of (recorded_bit B low st.held) (blocks_in B st.held) bits ≡ summed_counts B low bytes bits

-- Theorem: that holds after every list of feeds, refused and empty ones among them, with a carry-over before them or not.
abbrev pub AllKept : Type 0
AllKept =
    (B words : ℕ) → valid_size B ≡ true → (old : List (List ℕ)) (feeds : List Feed)
    → Kept B words (boards_of B words old feeds) (λ board. bytes_on board (accepted_of B words old feeds))

-- Two recordings with as many blocks and the same counts of every subset.
pub record Alike (B : ℕ) (held held' : List ℕ) : Type 0 where
  pub number : blocks_in B held ≡ blocks_in B held'
  pub counts :
      (low : Bool) (bits : List ℕ)
      → counts_of (recorded_bit B low held) (blocks_in B held) bits ≡ counts_of (recorded_bit B low held') (blocks_in B held') bits

-- the bytes of two lists of feeds are, board by board, the same
abbrev pub SameBytes : List Feed → List Feed → Type 0
SameBytes feeds feeds' = (board : ℕ) → board < 4 → bytes_on board feeds ≡ bytes_on board feeds'

-- Theorem: where the bytes accepted are, board by board, the same, the recordings are alike, however the bytes were cut and the boards took turns, whatever was
-- refused in between, wherever a carry-over stands, and on whatever number of words.
abbrev pub BytesAlike : Type 0
BytesAlike =
    (B words words' : ℕ) → valid_size B ≡ true → (old old' : List (List ℕ)) (feeds feeds' : List Feed)
    → SameBytes (accepted_of B words old feeds) (accepted_of B words' old' feeds')
    → Alike B (recording B words old feeds) (recording B words' old' feeds')

-- the pieces of two lists of feeds are, board by board, the same in the same order
abbrev pub SamePieces : List Feed → List Feed → Type 0
SamePieces feeds feeds' = (board : ℕ) → board < 4 → pieces_on board feeds ≡ pieces_on board feeds'

-- Theorem: then so are the bytes.
abbrev pub PiecesBytes : Type 0
PiecesBytes = (feeds feeds' : List Feed) → SamePieces feeds feeds' → SameBytes feeds feeds'

-- ---- one board

-- the accepted bytes where every feed is board 0's
abbrev pub sole_bytes : ℕ → ℕ → List (List ℕ) → List (List ℕ) → List ℕ
sole_bytes B words old pieces = bytes_on 0 (accepted_of B words old (on_board 0 pieces))

-- What a user of one board has, after pieces under the earlier rule and a carry-over, or a start.
pub record Sole (B words : ℕ) (old pieces : List (List ℕ)) : Type 0 where
  -- the blocks are the whole blocks of its accepted bytes, in their order
  pub held : recording B words old (on_board 0 pieces) ≡ whole B (sole_bytes B words old pieces)
  pub number : blocks_in B (recording B words old (on_board 0 pieces)) ≡ blocks_in B (sole_bytes B words old pieces)
  pub bits :
      (low : Bool)
      → AgreeBelow (blocks_in B (sole_bytes B words old pieces)) B (recorded_bit B low (recording B words old (on_board 0 pieces))) (recorded_bit B low (sole_bytes B words old pieces))
  -- one more piece is refused, with 5, just where the blocks of the bytes and the piece are more than capacity
  pub limit :
      (piece : List ℕ)
      → board_refusal B words (boards_of B words old (on_board 0 pieces)) (record { board = 0; piece = piece })
      ≡ cond (leb (blocks_in B (sole_bytes B words old pieces ++ piece)) (capacity B words)) 0 5
  -- what the earlier rule takes is taken
  pub taken :
      piece_refusals B words (earlier_recording B words old) pieces ≡ replicate (length pieces) 0
      → refusals_from B words (carried B (earlier_recording B words old)) (on_board 0 pieces) ≡ replicate (length pieces) 0
  -- where both rules refuse the same pieces, the bytes are those of the earlier rule's recording
  pub same :
      refusals_from B words (carried B (earlier_recording B words old)) (on_board 0 pieces) ≡ piece_refusals B words (earlier_recording B words old) pieces
      → sole_bytes B words old pieces ≡ earlier_recording B words (old ++ pieces)

-- Theorem: so for every list of pieces.
abbrev pub AllSole : Type 0
AllSole = (B words : ℕ) → valid_size B ≡ true → (old pieces : List (List ℕ)) → Sole B words old pieces
