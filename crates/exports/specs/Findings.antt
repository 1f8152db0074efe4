-- A finding that a host lends, judged by its numbers as they stand.
use Rattle.std.specs.Prelude.{◌≡◌, ℕ, ◌+◌, ◌≤◌, min, List, length, get_or, take, drop}
use Rattle.counting.specs.Sample.{Below}
use Rattle.subsets.specs.Bits.{bits_refusal}
use Rattle.searching.specs.Refusal.{or_else}
use Rattle.searching.specs.declared.finding.Finding.{Finding}
use Rattle.judging.specs.Check.{chosen, limit_refusal}
use Rattle.exports.specs.Records.{finding_read}

-- what is refused by its block size, its width and its bits alone: 1, 2, 9, 10
unfoldable pub subset_refusal : Finding → ℕ
subset_refusal f = or_else (limit_refusal f) (bits_refusal f.block_size (chosen f))

-- the finding with a division that 32 bits hold: the largest where it is larger, since 14 refuses both
abbrev pub narrowed : Finding → Finding
narrowed f = record { block_size = f.block_size; width = f.width; bits = f.bits; division = min f.division 4294967295; z = f.z; low_first = f.low_first }

-- numbers that a finding can be read from: the width is at most 20, and each bit up to it fits 32 bits
pub record Readable (l : List ℕ) : Type 0 where
  pub room : 25 ≤ length l
  pub width : get_or l 1 0 ≤ 20
  pub small : Below 4294967296 (take (get_or l 1 0) (drop 4 l))

-- Theorem: of the bit entries, what stands past the width is not read.
unfoldable pub ReadsNoFurther : Type 0
ReadsNoFurther =
    (l m : List ℕ) → take (4 + min (get_or l 1 0) 20) l ≡ take (4 + min (get_or l 1 0) 20) m → get_or l 24 0 ≡ get_or m 24 0 → finding_read l ≡ finding_read m
