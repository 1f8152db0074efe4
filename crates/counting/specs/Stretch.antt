-- A stretch of the blocks that the words hold: those from block `first` to before block `end`.
use Rattle.std.specs.Prelude.{ℕ, ◌-◌, ◌*◌, ◌≤◌, ◌≡◌, Bool, true, List, take, drop}
use Rattle.counting.specs.Block.{valid_size}
use Rattle.counting.specs.Recording.{block_bytes, blocks_in, recorded_bit}
use Rattle.counting.specs.Sample.{onward, AgreeBelow}
use Rattle.counting.specs.Words.{stored_bit}
use Rattle.counting.specs.declared.stretch.Stretch.{Stretch}

-- n: the blocks of the stretch
abbrev pub span : Stretch → ℕ
span x = x.end - x.first

-- the sample that it is: its block e is block first + e of those that the words hold
unfoldable pub stretch_bit : Stretch → List ℕ → ℕ → ℕ → ℕ
stretch_bit x ws = onward x.first (stored_bit x.stride ws)

-- the bytes of the blocks from `first` to before `end` of a recording that holds `held`
abbrev pub stretch_bytes : ℕ → List ℕ → ℕ → ℕ → List ℕ
stretch_bytes B held first end = take ((end - first) * block_bytes B) (drop (first * block_bytes B) held)

-- Theorem: a recording that holds these bytes alone has just the blocks of the stretch.
pub record Alone (B : ℕ) (low : Bool) (held : List ℕ) (first end : ℕ) : Type 0 where
  pub blocks : blocks_in B (stretch_bytes B held first end) ≡ end - first
  pub bits : AgreeBelow (end - first) B (onward first (recorded_bit B low held)) (recorded_bit B low (stretch_bytes B held first end))

abbrev pub StretchesAlone : Type 0
StretchesAlone = (B : ℕ) (low : Bool) (held : List ℕ) (first end : ℕ) → valid_size B ≡ true → first ≤ end → end ≤ blocks_in B held → Alone B low held first end

-- it does not end before it begins, its blocks are among those that a row can hold, and their number fits a count
abbrev pub Within : Stretch → Type 0
Within x = (x.first ≤ x.end) × (x.end ≤ 64 * x.stride) × (x.end ≤ 16777216)

-- .. and the words have a row for each bit of a block
abbrev pub StretchIn : Stretch → ℕ → Type 0
StretchIn x words = (x.block_size * x.stride ≤ words) × Within x
