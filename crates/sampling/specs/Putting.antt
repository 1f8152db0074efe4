-- Bytes put into the sampler's words.
use Rattle.std.specs.Prelude.{ℕ, zero, suc, ◌+◌, ◌-◌, ◌*◌, ◌/◌, ◌%◌, ◌^◌, Bool, cond, List, leb, get_or, set}
use Rattle.std.specs.Int.Bits.{bit_or}
use Rattle.counting.specs.Block.{bit_at, place_in}

-- word i with the bit v, 0 or 1, put into its bit k: a 1 sets the bit, and a 0 changes nothing
unfoldable pub put_bit : List ℕ → ℕ → ℕ → ℕ → List ℕ
put_bit ws i k v = set ws i (bit_or (get_or ws i 0) (v * 2 ^ k))

-- the first r bits of the byte x, in the bit order, put into bit k of the words at, at + S, at + 2 × S, ..
unfoldable pub put_bits : Bool → ℕ → List ℕ → ℕ → ℕ → ℕ → ℕ → List ℕ
put_bits low S ws at k x zero = ws
put_bits low S ws at k x (suc r) = put_bit (put_bits low S ws at k x r) (at + r * S) k (bit_at x (place_in low r))

-- byte x as byte number t of the recording; size is the bytes of a block
unfoldable pub put_byte : Bool → ℕ → ℕ → List ℕ → ℕ → ℕ → List ℕ
put_byte low size S ws t x = put_bits low S ws (8 * (t % size) * S + t / size / 64) (t / size % 64) x 8

-- the first n bytes of the piece, from byte number t on
unfoldable pub put_bytes : Bool → ℕ → ℕ → List ℕ → ℕ → List ℕ → ℕ → List ℕ
put_bytes low size S ws t piece zero = ws
put_bytes low size S ws t piece (suc n) = put_byte low size S (put_bytes low size S ws t piece n) (t + n) (get_or piece n 0)

-- bit b of block e, in the bit order, where its byte, number e × size + floor(b / 8) of the recording, is among the piece's, which are those from number t on; else 0
unfoldable pub arriving_bit : Bool → ℕ → ℕ → List ℕ → ℕ → ℕ → ℕ
arriving_bit low size t piece e b =
    let byte = e * size + b / 8 in cond (leb t byte) (bit_at (get_or piece (byte - t) 0) (place_in low (b % 8))) 0
