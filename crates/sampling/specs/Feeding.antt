-- What feed answers, and the words after it.
use Rattle.std.specs.Prelude.{◌≡◌, ℕ, ◌+◌, ◌-◌, ◌*◌, ◌/◌, ◌%◌, ◌≤◌, ◌<◌, max, cond, List, ◌++◌, Result, Ok, Err, leb, eqb, length, get_or, set, replicate}
use Rattle.counting.specs.Block.{bit_at}
use Rattle.counting.specs.Buffer.{put}
use Rattle.counting.specs.Recording.{block_bytes, stride, capacity}
use Rattle.counting.specs.Refusal.{number_of}
use Rattle.counting.specs.declared.refusal.Refusal.{Refusal}
use Rattle.sampling.specs.Cut.{whole, rest}
use Rattle.sampling.specs.Putting.{put_bytes, arriving_bit}
use Rattle.sampling.specs.Sampler.{pending, tail_of, sampler_refusal}
use Rattle.sampling.specs.declared.sampler.Head.{Head}
use Rattle.sampling.specs.declared.sampler.Sampler.{Sampler}
use Rattle.sampling.specs.declared.feeding.Taken.{Taken as TakenNumbers}

-- the bytes that a piece of `new` bytes and the unfinished ones of its board are together
abbrev pub together : Head → ℕ → ℕ → ℕ
together s board new = pending s board + new

-- the blocks that it completes
abbrev pub completed : Head → ℕ → ℕ → ℕ
completed s board new = together s board new / block_bytes s.block_size

-- feed: the sampler's refusal first; then 21 where there is no such board; then 5 where the piece would complete more blocks than capacity leaves; else 0
unfoldable pub feed_refusal : Head → ℕ → ℕ → ℕ → ℕ
feed_refusal s words board new =
    cond (eqb (sampler_refusal s words) 0)
    (cond (leb board 3)
    (cond (leb (s.blocks + completed s board new) (capacity s.block_size words)) 0 5)
    21)
    (sampler_refusal s words)

-- so many bytes of a piece are used for the blocks that it completes, of which there is one at least
abbrev pub Completes : Head → ℕ → ℕ → ℕ → Type 0
Completes s board new used = (1 ≤ completed s board new) × (pending s board + used ≡ completed s board new * block_bytes s.block_size)

-- what a feed answers where the unfinished bytes are lent: a refusal, 0 where there is none, and the numbers that it changes
pub record Taken : Type 0 where
  pub refusal : ℕ
  pub blocks : ℕ
  pub left : ℕ

-- .. as code answers it
abbrev pub as_taken : Result TakenNumbers Refusal → Taken
as_taken (Ok t) = record { refusal = 0; blocks = t.blocks; left = t.left }
as_taken (Err r) = record { refusal = number_of r; blocks = 0; left = 0 }

-- what a feed answers where the unfinished bytes are lent: n, and how many bytes its board has left; 0 beside a refusal
unfoldable pub taken_of : Head → ℕ → ℕ → ℕ → Taken
taken_of s words board new =
    cond (eqb (feed_refusal s words board new) 0)
    (record { refusal = 0; blocks = s.blocks + completed s board new; left = together s board new % block_bytes s.block_size })
    (record { refusal = feed_refusal s words board new; blocks = 0; left = 0 })

-- .. put into the numbers; those given where refused
unfoldable pub next_head : Head → ℕ → Taken → Head
next_head s board t =
    cond (eqb t.refusal 0)
    (record {
      block_size = s.block_size;
      words = s.words;
      blocks = t.blocks;
      low_first = s.low_first;
      lengths = set s.lengths board t.left;
    })
    s

-- the numbers after a feed: more blocks, and for its board what is left of them; those given where refused
unfoldable pub fed_head : Head → ℕ → ℕ → ℕ → Head
fed_head s words board new =
    cond (eqb (feed_refusal s words board new) 0)
    (record {
      block_size = s.block_size;
      words = s.words;
      blocks = s.blocks + completed s board new;
      low_first = s.low_first;
      lengths = set s.lengths board (together s board new % block_bytes s.block_size);
    })
    s

-- the unfinished bytes of the board with the piece behind them
abbrev pub arriving_on : Head → List ℕ → ℕ → List ℕ → List ℕ
arriving_on s unfinished board piece = tail_of s unfinished board ++ piece

-- what a board's bytes become: those past the whole blocks, and 0 where there were others before
unfoldable pub left_on : Head → List ℕ → ℕ → List ℕ → List ℕ
left_on s unfinished board piece =
    let left = rest s.block_size (arriving_on s unfinished board piece) in
    left ++ replicate (pending s board - length left) 0

-- the unfinished bytes after a feed: those of its board anew; as given where refused
unfoldable pub fed_unfinished : Head → ℕ → List ℕ → ℕ → List ℕ → List ℕ
fed_unfinished s words unfinished board piece =
    cond (eqb (feed_refusal s words board (length piece)) 0) (put unfinished (512 * board) (left_on s unfinished board piece)) unfinished

-- what feed answers: a refusal, 0 where there is none, and the sampler for the next call
pub record Fed : Type 0 where
  pub refusal : ℕ
  pub sampler : Sampler

-- .. as code answers it to the sampler given, which is the next call's where refused
abbrev pub as_fed : Sampler → Result Sampler Refusal → Fed
as_fed s (Ok t) = record { refusal = 0; sampler = t }
as_fed s (Err r) = record { refusal = number_of r; sampler = s }

-- feed's answer: the sampler for the next call, which is the one given where refused
unfoldable pub fed_of : Sampler → ℕ → ℕ → List ℕ → Fed
fed_of s words board piece =
    record {
      refusal = feed_refusal s.head words board (length piece);
      sampler = record {
        head = fed_head s.head words board (length piece);
        unfinished = fed_unfinished s.head words s.unfinished board piece;
      };
    }

-- .. and the words: the blocks that the piece completes put in from block number n on; as lent where refused
unfoldable pub fed_words : Head → List ℕ → List ℕ → ℕ → List ℕ → List ℕ
fed_words s unfinished ws board piece =
    let size = block_bytes s.block_size in
    let new = whole s.block_size (arriving_on s unfinished board piece) in
    cond (eqb (feed_refusal s (length ws) board (length piece)) 0)
    (put_bytes s.low_first size (stride s.block_size (length ws)) ws (s.blocks * size) new (length new))
    ws

-- What one feed that is not refused does to each bit of each word. Bit j of word p is the place of bit b = floor(p / S) of block e = 64 × (p mod S) + j:
-- it is 1 where it was 1 or a block that is completed has that place and its bit is 1, else as it was. Words at or past B × S stay.
pub record Fills (s : Head) (unfinished ws : List ℕ) (board : ℕ) (piece : List ℕ) : Type 0 where
  pub bits :
      (p j : ℕ)
      → p < s.block_size * stride s.block_size (length ws)
      → j < 64
      → let S = stride s.block_size (length ws) in
      let size = block_bytes s.block_size in
      let new = whole s.block_size (arriving_on s unfinished board piece) in
      bit_at (get_or (fed_words s unfinished ws board piece) p 0) j
      ≡ max (bit_at (get_or ws p 0) j) (arriving_bit s.low_first size (s.blocks * size) new (64 * (p % S) + j) (p / S))
  pub rest : (p : ℕ) → s.block_size * stride s.block_size (length ws) ≤ p → get_or (fed_words s unfinished ws board piece) p 0 ≡ get_or ws p 0

-- Theorem: every feed that is not refused does just that.
abbrev pub FeedFills : Type 0
FeedFills =
    (s : Head) (unfinished ws : List ℕ) (board : ℕ) (piece : List ℕ)
    → feed_refusal s (length ws) board (length piece) ≡ 0 → Fills s unfinished ws board piece
