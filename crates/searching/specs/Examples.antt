-- Worked examples at block size 8, from the bytes of a recording.
use Rattle.std.specs.Prelude.{◌≡◌, Bool, true, false, List, [], ◌∷◌, ℕ, Float, pos}
use Rattle.std.specs.Float.{fin}
use Rattle.counting.specs.Recording.{blocks_in, recorded_bit}
use Rattle.counting.specs.Sample.{counts_of}
use Rattle.ranking.specs.Order.{order_of}
use Rattle.ranking.specs.Ranking.{zero_score}
use Rattle.layers.specs.Examples.{StoreOfEight}
use Rattle.subsets.specs.Examples.{RanksOfEight}
use Rattle.searching.specs.Finding.{winner_of, ranking_of}

-- what a search of width k finds in the bytes, in a bit order
pub record Finds (low : Bool) (bytes : List ℕ) (k : ℕ) (bits order : List ℕ) (division : ℕ) (z : Float) : Type 0 where
  pub chosen : winner_of (recorded_bit 8 low bytes) (blocks_in 8 bytes) 8 k ≡ bits
  pub ordered : order_of (counts_of (recorded_bit 8 low bytes) (blocks_in 8 bytes) bits) ≡ order
  pub ranked : ranking_of (recorded_bit 8 low bytes) (blocks_in 8 bytes) bits ≡ record { division = division; z = z }

-- 2 as a double
abbrev pub two : Float
two = fin false 1 (pos 1)

-- Theorem: the worked examples of the search.
pub record SearchExamples : Type 0 where
  -- 80 80 80 80: the first bit is always set
  pub always : Finds false (0x80 ∷ 0x80 ∷ 0x80 ∷ 0x80 ∷ []) 1 (0 ∷ []) (1 ∷ 0 ∷ []) 1 two
  -- FF 00: every bit is set once, so all tie
  pub ties : Finds false (0xff ∷ 0 ∷ []) 1 (0 ∷ []) (0 ∷ 1 ∷ []) 1 zero_score
  -- nothing recorded
  pub empty : Finds false [] 3 (0 ∷ 1 ∷ 2 ∷ []) (0 ∷ 1 ∷ 2 ∷ 3 ∷ 4 ∷ 5 ∷ 6 ∷ 7 ∷ []) 1 zero_score
  -- 00 00 FF FF: two bits that agree
  pub together : Finds false (0 ∷ 0 ∷ 0xff ∷ 0xff ∷ []) 2 (0 ∷ 1 ∷ []) (0 ∷ 3 ∷ 1 ∷ 2 ∷ []) 2 two
  -- FE FF FE FF: only the lowest bit of a byte is not always set; it is bit 0 with the low bit first, bit 7 with the high bit first
  pub low : Finds true (0xfe ∷ 0xff ∷ 0xfe ∷ 0xff ∷ []) 1 (1 ∷ []) (1 ∷ 0 ∷ []) 1 two
  pub high : Finds false (0xfe ∷ 0xff ∷ 0xfe ∷ 0xff ∷ []) 1 (0 ∷ []) (1 ∷ 0 ∷ []) 1 two
  -- ranks of pairs
  pub ranks : RanksOfEight
  -- the store of width 8
  pub store : StoreOfEight
