-- The earlier rule, of one board: a sampler keeps T, the number of bytes taken, and an unfinished block stands in the words too. No call goes by it any more;
-- a recording that was begun under it is carried over (`Carrying`).
use Rattle.std.specs.Prelude.{◌≡◌, ℕ, ◌+◌, ◌≤◌, Bool, true, cond, List, [], ◌∷◌, ◌++◌, leb, eqb, length, replicate}
use Rattle.counting.specs.Block.{valid_size}
use Rattle.counting.specs.Recording.{block_bytes, stride, capacity_bytes, blocks_in, recorded_bit}
use Rattle.counting.specs.Sample.{AgreeBelow}
use Rattle.counting.specs.Words.{stored_bit}
use Rattle.sampling.specs.Putting.{put_bytes}
use Rattle.sampling.specs.declared.carrying.Earlier.{Earlier}

-- ---- the plain recording: a list of bytes, fed B, the number of lent words and the pieces

-- the refusal of one piece: 5 where it would make the recording longer than capacity, else 0
unfoldable pub piece_refusal : ℕ → ℕ → List ℕ → List ℕ → ℕ
piece_refusal B words held piece = cond (leb (length held + length piece) (capacity_bytes B words)) 0 5

-- the bytes held after one piece: it is appended unless refused
unfoldable pub held_after : ℕ → ℕ → List ℕ → List ℕ → List ℕ
held_after B words held piece = cond (leb (length held + length piece) (capacity_bytes B words)) (held ++ piece) held

-- the bytes held after all pieces, oldest first
unfoldable pub held_from : ℕ → ℕ → List ℕ → List (List ℕ) → List ℕ
held_from B words held [] = held
held_from B words held (p ∷ ps) = held_from B words (held_after B words held p) ps

-- the refusal of each piece in turn
unfoldable pub piece_refusals : ℕ → ℕ → List ℕ → List (List ℕ) → List ℕ
piece_refusals B words held [] = []
piece_refusals B words held (p ∷ ps) = piece_refusal B words held p ∷ piece_refusals B words (held_after B words held p) ps

-- the pieces that are not refused
unfoldable pub taken_pieces : ℕ → ℕ → List ℕ → List (List ℕ) → List (List ℕ)
taken_pieces B words held [] = []
taken_pieces B words held (p ∷ ps) =
    let later = taken_pieces B words (held_after B words held p) ps in
    cond (eqb (piece_refusal B words held p) 0) (p ∷ later) later

-- the recording of the pieces: it holds nothing after start
abbrev pub earlier_recording : ℕ → ℕ → List (List ℕ) → List ℕ
earlier_recording B words pieces = held_from B words [] pieces

-- ---- the sampler and its words

-- 4: the sampler's B is invalid, its number of words is not the lent one, or it has taken more than capacity; else 0
unfoldable pub earlier_refusal : Earlier → ℕ → ℕ
earlier_refusal s words =
    cond (valid_size s.block_size)
    (cond (eqb s.words words)
    (cond (leb s.taken (capacity_bytes s.block_size words)) 0 4)
    4)
    4

-- feed: the sampler's refusal first; then 5 where the piece would go past capacity; else 0
unfoldable pub earlier_feed_refusal : Earlier → ℕ → ℕ → ℕ
earlier_feed_refusal s words new =
    cond (eqb (earlier_refusal s words) 0)
    (cond (leb (s.taken + new) (capacity_bytes s.block_size words)) 0 5)
    (earlier_refusal s words)

-- the sampler last returned, and the words
pub record EarlierState : Type 0 where
  pub sampler : Earlier
  pub words : List ℕ

-- after a start that is not refused: all words cleared
abbrev pub earlier_started : ℕ → Bool → List ℕ → EarlierState
earlier_started B low ws =
    record {
      sampler = record { block_size = B; words = length ws; taken = 0; low_first = low };
      words = replicate (length ws) 0;
    }

-- after one feed: the piece's bytes put in from byte number T on; as it was where refused
unfoldable pub earlier_fed : EarlierState → List ℕ → EarlierState
earlier_fed st piece =
    let s = st.sampler in
    let B = s.block_size in
    cond (eqb (earlier_feed_refusal s (length st.words) (length piece)) 0)
    (record {
      sampler = record { block_size = B; words = s.words; taken = s.taken + length piece; low_first = s.low_first };
      words = put_bytes s.low_first (block_bytes B) (stride B (length st.words)) st.words s.taken piece (length piece);
    })
    st

-- after all feeds, oldest first
unfoldable pub earlier_fed_all : EarlierState → List (List ℕ) → EarlierState
earlier_fed_all st [] = st
earlier_fed_all st (p ∷ ps) = earlier_fed_all (earlier_fed st p) ps

-- .. from a start that is not refused on
abbrev pub earlier_after : ℕ → Bool → List ℕ → List (List ℕ) → EarlierState
earlier_after B low ws pieces = earlier_fed_all (earlier_started B low ws) pieces

-- what each feed answers in turn
unfoldable pub earlier_answers : EarlierState → List (List ℕ) → List ℕ
earlier_answers st [] = []
earlier_answers st (p ∷ ps) = earlier_feed_refusal st.sampler (length st.words) (length p) ∷ earlier_answers (earlier_fed st p) ps

-- Theorem: after a start that is not refused and any list of feeds, a feed is refused just where the plain recording refuses it, T is the number of bytes held,
-- and the words hold the whole blocks.
pub record EarlierRecorded (B : ℕ) (low : Bool) (ws : List ℕ) (pieces : List (List ℕ)) : Type 0 where
  pub answers : earlier_answers (earlier_started B low ws) pieces ≡ piece_refusals B (length ws) [] pieces
  pub sampler :
      (earlier_after B low ws pieces).sampler
      ≡ record { block_size = B; words = length ws; taken = length (earlier_recording B (length ws) pieces); low_first = low }
  pub lent : length (earlier_after B low ws pieces).words ≡ length ws
  pub within : length (earlier_recording B (length ws) pieces) ≤ capacity_bytes B (length ws)
  pub stored :
      let held = earlier_recording B (length ws) pieces in
      AgreeBelow (blocks_in B held) B (stored_bit (stride B (length ws)) (earlier_after B low ws pieces).words) (recorded_bit B low held)

abbrev pub AllEarlierRecorded : Type 0
AllEarlierRecorded = (B : ℕ) (low : Bool) (ws : List ℕ) → valid_size B ≡ true → (pieces : List (List ℕ)) → EarlierRecorded B low ws pieces
