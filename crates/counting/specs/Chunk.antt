-- The chunks in which a stretch is counted.
use Rattle.std.specs.Prelude.{ℕ, ◌+◌, ◌-◌, ◌*◌, ◌/◌, ◌≤◌, ◌<◌, min, List, Bool, leb, length, take, drop}
use Rattle.counting.specs.Sample.{onward}
use Rattle.counting.specs.Words.{stored_bit}
use Rattle.counting.specs.declared.stretch.Stretch.{Stretch}
use Rattle.counting.specs.declared.chunk.Chunk.{Chunk}

-- the chunk of a stretch from word `start` on: of its lanes, 64 to a word, those of blocks before the stretch are skipped; it ends with the stretch,
-- and after 512 words at the latest
abbrev pub chunk_at : Stretch → ℕ → Chunk
chunk_at x start =
    record { stride = x.stride; start = start; skip = x.first - 64 * start; lanes = min (x.end - 64 * start) 32768 }

-- the chunk's sample and the number of its blocks
abbrev pub chunk_bit : Chunk → List ℕ → ℕ → ℕ → ℕ
chunk_bit c ws = onward (64 * c.start + c.skip) (stored_bit c.stride ws)

abbrev pub chunk_blocks : Chunk → ℕ
chunk_blocks c = c.lanes - c.skip

-- the words of bit b's row that have its lanes
abbrev pub row_part : Chunk → List ℕ → ℕ → List ℕ
row_part c ws b = take ((c.lanes + 63) / 64) (drop (b * c.stride + c.start) ws)

-- n lanes from word `start` on lie in rows of S words, their blocks fit a count, and 512 words have as many
abbrev pub LanesIn : ℕ → ℕ → ℕ → Type 0
LanesIn S start n = (64 * start + n ≤ 64 * S) × (64 * start + n ≤ 16777216) × (n ≤ 32768)

-- so do those of a chunk, and none is skipped but in the first word
abbrev pub ChunkIn : Chunk → Type 0
ChunkIn c = LanesIn c.stride c.start c.lanes × (c.skip ≤ c.lanes) × (c.skip < 64)

-- 64 words have all its lanes
abbrev pub is_short : Chunk → Bool
is_short c = leb c.lanes 4096

-- acc has a lane for each of its lanes, and one word at the least
abbrev pub MarkRoom : Chunk → List ℕ → Type 0
MarkRoom c acc = (c.lanes ≤ 64 * length acc) × (0 < length acc)
