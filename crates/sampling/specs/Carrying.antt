-- The carry-over: a sampler of the earlier rule, in the middle of a recording, becomes one of today's.
use Rattle.std.specs.Prelude.{ℕ, zero, suc, ◌+◌, ◌*◌, ◌/◌, ◌%◌, ◌^◌, ◌≤◌, ◌<◌, Bool, cond, List, [], ◌∷◌, Result, Ok, Err, eqb, length, get_or, set, replicate}
use Rattle.std.specs.Int.Bits.{bit_xor}
use Rattle.counting.specs.Block.{bit_at, place_in, bin_of}
use Rattle.counting.specs.Buffer.{put}
use Rattle.counting.specs.Recording.{block_bytes, stride}
use Rattle.counting.specs.Refusal.{number_of}
use Rattle.counting.specs.Sample.{list_of}
use Rattle.counting.specs.Words.{stored_bit}
use Rattle.counting.specs.declared.refusal.Refusal.{Refusal}
use Rattle.sampling.specs.Earlier.{earlier_refusal}
use Rattle.sampling.specs.Sampler.{no_sampler}
use Rattle.sampling.specs.declared.carrying.Earlier.{Earlier}
use Rattle.sampling.specs.declared.sampler.Sampler.{Sampler}

-- bit k of word i cleared
unfoldable pub clear_bit : List ℕ → ℕ → ℕ → List ℕ
clear_bit ws i k = set ws i (bit_xor (get_or ws i 0) (bit_at (get_or ws i 0) k * 2 ^ k))

-- the first m bits of block e cleared
unfoldable pub clear_bits : ℕ → List ℕ → ℕ → ℕ → List ℕ
clear_bits S ws e zero = ws
clear_bits S ws e (suc m) = clear_bit (clear_bits S ws e m) (m * S + e / 64) (e % 64)

-- byte j of block e as the words have it: its bit i is the block's bit 8 × j + r, where bit i of a byte is number r of its 8 in the bit order
unfoldable pub stored_byte : Bool → ℕ → List ℕ → ℕ → ℕ → ℕ
stored_byte low S ws e j = bin_of (λ i. stored_bit S ws e (8 * j + place_in low i)) (0 ∷ 1 ∷ 2 ∷ 3 ∷ 4 ∷ 5 ∷ 6 ∷ 7 ∷ [])

-- so many words have a row of S for each of the first m bits of a block, and block e, where there is such a bit, has a lane
abbrev pub BlockIn : ℕ → ℕ → ℕ → ℕ → Type 0
BlockIn S words e m = (m * S ≤ words) × (0 < m → e < 64 * S)

-- the whole blocks that the earlier sampler has taken
abbrev pub whole_of : Earlier → ℕ
whole_of s = s.taken / block_bytes s.block_size

-- how many bytes it has past them
abbrev pub left_of : Earlier → ℕ
left_of s = s.taken % block_bytes s.block_size

-- .. and which, as they stand in the words
unfoldable pub left_bytes : Earlier → List ℕ → List ℕ
left_bytes s ws = list_of (left_of s) (stored_byte s.low_first (stride s.block_size (length ws)) ws (whole_of s))

-- what the carry-over answers: a refusal, 0 where there is none, and the sampler that goes on
pub record Carried : Type 0 where
  pub refusal : ℕ
  pub sampler : Sampler

-- .. as code answers it
abbrev pub as_carried : Result Sampler Refusal → Carried
as_carried (Ok s) = record { refusal = 0; sampler = s }
as_carried (Err r) = record { refusal = number_of r; sampler = no_sampler }

-- the carry-over's answer: its unfinished bytes are board 0's; 4 as the earlier rule has it, and every field 0
unfoldable pub carried_of : Earlier → List ℕ → Carried
carried_of s ws =
    cond (eqb (earlier_refusal s (length ws)) 0)
    (record {
      refusal = 0;
      sampler = record {
        head = record {
          block_size = s.block_size;
          words = s.words;
          blocks = whole_of s;
          low_first = s.low_first;
          lengths = left_of s ∷ 0 ∷ 0 ∷ 0 ∷ [];
        };
        unfinished = put (replicate 2048 0) 0 (left_bytes s ws);
      };
    })
    (record { refusal = earlier_refusal s (length ws); sampler = no_sampler })

-- .. and the words: these bytes' bits cleared, and no other; as lent where refused
unfoldable pub carried_words : Earlier → List ℕ → List ℕ
carried_words s ws =
    cond (eqb (earlier_refusal s (length ws)) 0)
    (clear_bits (stride s.block_size (length ws)) ws (whole_of s) (8 * left_of s))
    ws
