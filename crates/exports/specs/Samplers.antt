-- A sampler as 8 numbers in one lent slice and its 2,048 unfinished bytes in another, and a sampler of the earlier rule as 4 numbers.
use Rattle.std.specs.Prelude.{◌≡◌, ℕ, cond, List, [], ◌∷◌, leb, eqb, length, get_or, take}
use Rattle.sampling.specs.declared.carrying.Earlier.{Earlier}
use Rattle.sampling.specs.declared.sampler.Head.{Head}
use Rattle.sampling.specs.declared.sampler.Sampler.{Sampler}
use Rattle.exports.specs.Records.{order_number, written, short_record, bit_order_refusal}

-- a sampler's numbers: its block size, its number of words, the blocks completed, its bit order, how many unfinished bytes each board has
abbrev pub sampler_numbers : Head → List ℕ
sampler_numbers s = s.block_size ∷ s.words ∷ s.blocks ∷ order_number s.low_first ∷ s.lengths

-- all of a sampler but its bytes, whose numbers stand first
abbrev pub head_of : List ℕ → Head
head_of l =
    record {
      block_size = get_or l 0 0;
      words = get_or l 1 0;
      blocks = get_or l 2 0;
      low_first = eqb (get_or l 3 0) 1;
      lengths = get_or l 4 0 ∷ get_or l 5 0 ∷ get_or l 6 0 ∷ get_or l 7 0 ∷ [];
    }

-- the sampler whose numbers stand first in one slice and whose bytes in another
abbrev pub sampler_of : List ℕ → List ℕ → Sampler
sampler_of numbers bytes = record { head = head_of numbers; unfinished = take 2048 bytes }

-- .. and one of the earlier rule: its block size, its number of words, the bytes taken, its bit order
abbrev pub earlier_of : List ℕ → Earlier
earlier_of l = record { block_size = get_or l 0 0; words = get_or l 1 0; taken = get_or l 2 0; low_first = eqb (get_or l 3 0) 1 }

-- the sampler written to both slices
pub record SamplerWritten (s : Sampler) (numbers bytes numbers' bytes' : List ℕ) : Type 0 where
  pub first : numbers' ≡ written (sampler_numbers s.head) numbers
  pub second : bytes' ≡ written s.unfinished bytes

-- slices of so many numbers and so many bytes that a sampler is written to: 25
unfoldable pub sampler_room : ℕ → ℕ → ℕ
sampler_room numbers bytes = cond (leb 8 numbers) (cond (leb 2048 bytes) 0 short_record) short_record

-- a slice that a sampler's numbers are read from: 25, 27
unfoldable pub sampler_unread : List ℕ → ℕ
sampler_unread l = cond (leb 8 (length l)) (bit_order_refusal (get_or l 3 0)) short_record

-- .. and a slice of so many bytes that it has its unfinished bytes in: 25 of either, 27
unfoldable pub feed_unread : List ℕ → ℕ → ℕ
feed_unread l bytes = cond (leb 2048 bytes) (sampler_unread l) short_record

-- .. or a slice of `room` numbers that a finding is written to: 25 of either, 27
unfoldable pub search_unread : List ℕ → ℕ → ℕ
search_unread l room = cond (leb 25 room) (sampler_unread l) short_record

-- a slice that a sampler of the earlier rule is read from, and those that today's is written to: 25 of any, 27
unfoldable pub carry_unread : List ℕ → ℕ → ℕ → ℕ
carry_unread l numbers bytes = cond (leb 4 (length l)) (cond (eqb (sampler_room numbers bytes) 0) (bit_order_refusal (get_or l 3 0)) short_record) short_record
