-- The plain recording of the rules: it is fed B, the number of lent words and the feeds, each with its board, and nothing of the sampler or its words.
use Rattle.std.specs.Prelude.{ℕ, ◌+◌, cond, List, [], ◌∷◌, ◌++◌, map, leb, eqb}
use Rattle.counting.specs.Recording.{capacity, blocks_in}
use Rattle.sampling.specs.Cut.{whole, rest}
use Rattle.sampling.specs.Earlier.{piece_refusals, taken_pieces, earlier_recording}

-- what it holds: the blocks, one behind the other in the order completed, and each board's unfinished bytes
pub record Boards : Type 0 where
  pub held : List ℕ
  pub tail : ℕ → List ℕ

-- a feed: the piece, and the board that it names
pub record Feed : Type 0 where
  pub board : ℕ
  pub piece : List ℕ

-- x for this board, and for the others what they had
unfoldable pub changed {ℓ} : {A : Type ℓ} → ℕ → A → (ℕ → A) → ℕ → A
changed board x was b = cond (eqb b board) x (was b)

-- the unfinished bytes of a feed's board with the piece behind them
abbrev pub arriving : Boards → Feed → List ℕ
arriving st f = st.tail f.board ++ f.piece

-- the refusal of one feed: 21 where there is no such board, 5 where it would complete more blocks than capacity leaves, else 0
unfoldable pub board_refusal : ℕ → ℕ → Boards → Feed → ℕ
board_refusal B words st f =
    cond (leb f.board 3)
    (cond (leb (blocks_in B st.held + blocks_in B (arriving st f)) (capacity B words)) 0 5)
    21

-- a feed taken: the blocks that it completes stand behind those before them, and what is past them is its board's
unfoldable pub taken : ℕ → Boards → Feed → Boards
taken B st f =
    record {
      held = st.held ++ whole B (arriving st f);
      tail = changed f.board (rest B (arriving st f)) st.tail;
    }

-- what is held after one feed: as before where it is refused
unfoldable pub boards_after : ℕ → ℕ → Boards → Feed → Boards
boards_after B words st f = cond (eqb (board_refusal B words st f) 0) (taken B st f) st

-- .. after all feeds, oldest first
unfoldable pub boards_from : ℕ → ℕ → Boards → List Feed → Boards
boards_from B words st [] = st
boards_from B words st (f ∷ fs) = boards_from B words (boards_after B words st f) fs

-- the refusal of each feed in turn
unfoldable pub refusals_from : ℕ → ℕ → Boards → List Feed → List ℕ
refusals_from B words st [] = []
refusals_from B words st (f ∷ fs) = board_refusal B words st f ∷ refusals_from B words (boards_after B words st f) fs

-- the feeds that are not refused
unfoldable pub accepted_from : ℕ → ℕ → Boards → List Feed → List Feed
accepted_from B words st [] = []
accepted_from B words st (f ∷ fs) =
    let later = accepted_from B words (boards_after B words st f) fs in
    cond (eqb (board_refusal B words st f) 0) (f ∷ later) later

-- the pieces of the feeds that name this board, in their order
unfoldable pub pieces_on : ℕ → List Feed → List (List ℕ)
pieces_on board [] = []
pieces_on board (f ∷ fs) = cond (eqb f.board board) (f.piece ∷ pieces_on board fs) (pieces_on board fs)

-- pieces as feeds of one board
abbrev pub on_board : ℕ → List (List ℕ) → List Feed
on_board board pieces = map (λ p. record { board = board; piece = p }) pieces

-- ---- where it begins

-- after start nothing is held
abbrev pub nothing : Boards
nothing = record { held = []; tail = λ board. [] }

-- bytes recorded under the earlier rule, carried over: their whole blocks, and what is past them as board 0's
unfoldable pub carried : ℕ → List ℕ → Boards
carried B bytes = record { held = whole B bytes; tail = changed 0 (rest B bytes) (λ board. []) }

-- ---- pieces under the earlier rule, which are board 0's, a carry-over, and feeds; with no pieces it is a start and feeds (`AllCarried`)

-- what is held after them
abbrev pub boards_of : ℕ → ℕ → List (List ℕ) → List Feed → Boards
boards_of B words old feeds = boards_from B words (carried B (earlier_recording B words old)) feeds

-- .. of which the blocks
abbrev pub recording : ℕ → ℕ → List (List ℕ) → List Feed → List ℕ
recording B words old feeds = (boards_of B words old feeds).held

-- what is refused of them
abbrev pub refusals_of : ℕ → ℕ → List (List ℕ) → List Feed → List ℕ
refusals_of B words old feeds = piece_refusals B words [] old ++ refusals_from B words (carried B (earlier_recording B words old)) feeds

-- what is accepted of them
abbrev pub accepted_of : ℕ → ℕ → List (List ℕ) → List Feed → List Feed
accepted_of B words old feeds = on_board 0 (taken_pieces B words [] old) ++ accepted_from B words (carried B (earlier_recording B words old)) feeds
