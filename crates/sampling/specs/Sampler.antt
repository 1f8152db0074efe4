-- The sampler: what start answers, and the words after it; the unfinished bytes of a board; refusal 4.
use Rattle.std.specs.Prelude.{ℕ, ◌*◌, Bool, false, cond, ◌&&◌, List, [], ◌∷◌, Result, Ok, Err, leb, ltb, eqb, length, get_or, take, drop, replicate}
use Rattle.counting.specs.Block.{valid_size}
use Rattle.counting.specs.Recording.{block_bytes, capacity}
use Rattle.counting.specs.Refusal.{number_of}
use Rattle.counting.specs.declared.refusal.Refusal.{Refusal}
use Rattle.sampling.specs.declared.sampler.Head.{Head}
use Rattle.sampling.specs.declared.sampler.Sampler.{Sampler}

-- a sampler of these words and this bit order that has no byte
abbrev pub fresh_sampler : ℕ → Bool → ℕ → Sampler
fresh_sampler B low words =
    record {
      head = record { block_size = B; words = words; blocks = 0; low_first = low; lengths = 0 ∷ 0 ∷ 0 ∷ 0 ∷ [] };
      unfinished = replicate 2048 0;
    }

-- beside a refusal every field is 0, which is the high bit first
abbrev pub no_sampler : Sampler
no_sampler = fresh_sampler 0 false 0

-- what start answers: a refusal, 0 where there is none, and the fresh sampler
pub record Started : Type 0 where
  pub refusal : ℕ
  pub sampler : Sampler

-- .. as code answers it
abbrev pub as_started : Result Sampler Refusal → Started
as_started (Ok s) = record { refusal = 0; sampler = s }
as_started (Err r) = record { refusal = number_of r; sampler = no_sampler }

-- start: a fresh sampler; 1 where B is outside its limits
unfoldable pub started_of : ℕ → Bool → ℕ → Started
started_of B low words = cond (valid_size B) (record { refusal = 0; sampler = fresh_sampler B low words }) (record { refusal = 1; sampler = no_sampler })

-- .. and the words: all cleared; as lent where refused
unfoldable pub started_words : ℕ → List ℕ → List ℕ
started_words B ws = cond (valid_size B) (replicate (length ws) 0) ws

-- n: the blocks completed so far
abbrev pub blocks_of : Head → ℕ
blocks_of s = s.blocks

-- how many unfinished bytes a board has
abbrev pub pending : Head → ℕ → ℕ
pending s board = get_or s.lengths board 0

-- .. and which: the boards' bytes stand 512 places apart
unfoldable pub tail_of : Head → List ℕ → ℕ → List ℕ
tail_of s unfinished board = take (pending s board) (drop (512 * board) unfinished)

-- whether each board's unfinished bytes are fewer than a block's
abbrev pub each_short : Head → Bool
each_short s =
    let size = block_bytes s.block_size in
    ltb (pending s 0) size && (ltb (pending s 1) size && (ltb (pending s 2) size && ltb (pending s 3) size))

-- 4: the sampler's B is invalid, its number of words is not the lent one, it has completed more blocks than capacity, or a board has a block's unfinished bytes or more; else 0
unfoldable pub sampler_refusal : Head → ℕ → ℕ
sampler_refusal s words =
    cond (valid_size s.block_size)
    (cond (eqb s.words words)
    (cond (leb s.blocks (capacity s.block_size words))
    (cond (each_short s) 0 4)
    4)
    4)
    4
