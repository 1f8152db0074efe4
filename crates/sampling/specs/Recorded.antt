-- A fresh sampler, or one carried over, and the feeds after it, each given the sampler last returned and the same words.
use Rattle.std.specs.Prelude.{◌≡◌, ℕ, ◌*◌, ◌/◌, ◌%◌, ◌≤◌, ◌<◌, Bool, true, List, [], ◌∷◌, ◌++◌, length, get_or}
use Rattle.counting.specs.Block.{valid_size}
use Rattle.counting.specs.Sample.{AgreeBelow, list_of}
use Rattle.counting.specs.Recording.{stride, capacity, blocks_in, recorded_bit}
use Rattle.counting.specs.Words.{stored_bit}
use Rattle.sampling.specs.Boards.{Boards, Feed, boards_of, refusals_of}
use Rattle.sampling.specs.Carrying.{carried_of, carried_words}
use Rattle.sampling.specs.Earlier.{earlier_started, earlier_after, earlier_answers, earlier_recording}
use Rattle.sampling.specs.Feeding.{fed_of, fed_words}
use Rattle.sampling.specs.Sampler.{started_of, started_words}
use Rattle.sampling.specs.declared.sampler.Sampler.{Sampler}

-- the sampler last returned, and the words
pub record State : Type 0 where
  pub sampler : Sampler
  pub words : List ℕ

-- after start
unfoldable pub started : ℕ → Bool → List ℕ → State
started B low ws = record { sampler = (started_of B low (length ws)).sampler; words = started_words B ws }

-- after a start and pieces under the earlier rule, and a carry-over
unfoldable pub carried_over : ℕ → Bool → List ℕ → List (List ℕ) → State
carried_over B low ws old =
    let before = earlier_after B low ws old in
    record { sampler = (carried_of before.sampler before.words).sampler; words = carried_words before.sampler before.words }

-- after one feed, accepted or refused
unfoldable pub fed : State → Feed → State
fed st f =
    record {
      sampler = (fed_of st.sampler (length st.words) f.board f.piece).sampler;
      words = fed_words st.sampler.head st.sampler.unfinished st.words f.board f.piece;
    }

-- after all feeds, oldest first
unfoldable pub fed_all : State → List Feed → State
fed_all st [] = st
fed_all st (f ∷ fs) = fed_all (fed st f) fs

-- what each feed answers in turn
unfoldable pub answers_from : State → List Feed → List ℕ
answers_from st [] = []
answers_from st (f ∷ fs) = (fed_of st.sampler (length st.words) f.board f.piece).refusal ∷ answers_from (fed st f) fs

-- ---- what they hold

-- the boards' unfinished bytes as a sampler has them: entry 512 × board + i is the board's byte i, and 0 past its bytes
unfoldable pub kept_bytes : (ℕ → List ℕ) → List ℕ
kept_bytes tail = list_of 2048 (λ p. get_or (tail (p / 512)) (p % 512) 0)

-- the sampler of a recording that holds this
abbrev pub sampler_of : ℕ → Bool → ℕ → Boards → Sampler
sampler_of B low words st =
    record {
      head = record {
        block_size = B;
        words = words;
        blocks = blocks_in B st.held;
        low_first = low;
        lengths = length (st.tail 0) ∷ length (st.tail 1) ∷ length (st.tail 2) ∷ length (st.tail 3) ∷ [];
      };
      unfinished = kept_bytes st.tail;
    }

-- The state is that of a recording in this bit order that holds `st`: the sampler is its sampler, and the words have its blocks and nothing else.
pub record HoldsRecording (B : ℕ) (low : Bool) (words : ℕ) (state : State) (st : Boards) : Type 0 where
  pub sampler : state.sampler ≡ sampler_of B low words st
  pub lent : length state.words ≡ words
  pub within : blocks_in B st.held ≤ capacity B words
  pub stored : AgreeBelow (blocks_in B st.held) B (stored_bit (stride B words) state.words) (recorded_bit B low st.held)
  pub clear : (e b : ℕ) → blocks_in B st.held ≤ e → e < 64 * stride B words → b < B → stored_bit (stride B words) state.words e b ≡ 0

-- these are bytes
abbrev pub Bytes : List ℕ → Type 0
Bytes bytes = (i : ℕ) → i < length bytes → get_or bytes i 0 < 256

-- Theorem: after a start in either bit order that is not refused, pieces under the earlier rule and a carry-over, and any list of feeds, a feed is refused just
-- where the plain recording refuses it, and the state holds the recording. With no pieces before it that is a start and any list of feeds.
pub record Recorded (B : ℕ) (low : Bool) (ws : List ℕ) (old : List (List ℕ)) (feeds : List Feed) : Type 0 where
  pub answers :
      earlier_answers (earlier_started B low ws) old ++ answers_from (carried_over B low ws old) feeds ≡ refusals_of B (length ws) old feeds
  pub holds : HoldsRecording B low (length ws) (fed_all (carried_over B low ws old) feeds) (boards_of B (length ws) old feeds)

abbrev pub AllRecorded : Type 0
AllRecorded =
    (B : ℕ) (low : Bool) (ws : List ℕ) → valid_size B ≡ true → (old : List (List ℕ)) → Bytes (earlier_recording B (length ws) old) → (feeds : List Feed)
    → Recorded B low ws old feeds

-- Theorem: a carry-over of an earlier recording is not refused, and one with no pieces before it is a fresh start.
pub record Carries (B : ℕ) (low : Bool) (ws : List ℕ) : Type 0 where
  pub taken :
      (old : List (List ℕ)) → let before = earlier_after B low ws old in (carried_of before.sampler before.words).refusal ≡ 0
  pub fresh : carried_over B low ws [] ≡ started B low ws

abbrev pub AllCarried : Type 0
AllCarried = (B : ℕ) (low : Bool) (ws : List ℕ) → valid_size B ≡ true → Carries B low ws
