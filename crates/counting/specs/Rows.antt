-- Counting from the rows.
use Rattle.std.specs.Prelude.{◌≡◌, ℕ, ◌+◌, ◌-◌, ◌*◌, ◌^◌, ◌≤◌, ◌<◌, min, cond, List, leb, length, get_or}
use Rattle.counting.specs.Block.{bin_of}
use Rattle.counting.specs.Sample.{same, sum_to}
use Rattle.counting.specs.Tally.{lane_of, word_at, word_with}

-- the row of each of the bits lies within the words
abbrev pub RowsIn : List ℕ → ℕ → List ℕ → Type 0
RowsIn words S bits = (i : ℕ) → i < length bits → get_or bits i 0 * S + S ≤ length words

-- how many of the first n blocks are marked by their lanes and in bin v
unfoldable pub marked_in : (ℕ → ℕ) → (ℕ → ℕ → ℕ) → List ℕ → ℕ → ℕ → ℕ
marked_in lane bit bits n v = sum_to (λ e. min (lane e) (same (bin_of (bit e) bits) v)) n

-- 1 for the lanes from `skip` on, 0 for those before
abbrev pub from : ℕ → ℕ → ℕ
from skip e = cond (leb skip e) 1 0

-- of the lanes of acc those from `skip` on are marked, and no others
abbrev pub MarkedFrom : ℕ → List ℕ → Type 0
MarkedFrom skip acc = (e : ℕ) → e < 64 * length acc → lane_of (word_at acc) e ≡ from skip e

-- the lanes of acc say which of the first n blocks are marked by `lane` and have all the bits set
abbrev pub Marks : (ℕ → ℕ) → List ℕ → (ℕ → ℕ → ℕ) → List ℕ → ℕ → Type 0
Marks lane acc bit bits n = (e : ℕ) → e < n → lane_of (word_at acc) e ≡ min (lane e) (same (bin_of (bit e) bits) (2 ^ length bits - 1))

-- of len places, j is the one after i, or i where that is the last
abbrev pub Paired : ℕ → ℕ → ℕ → Type 0
Paired i len j = (i + 1 < len → j ≡ i + 1) × (len ≤ i + 1 → j ≡ i)

-- n blocks more fit each count
abbrev pub CountRoom : ℕ → List ℕ → Type 0
CountRoom n counts = (v : ℕ) → v < length counts → get_or counts v 0 + n ≤ 16777216

-- bins `at` and `at` + 1 have grown by the set lanes of the words: the first by those that the row's bit is not set in, the second by the others
abbrev pub Parted : (ℕ → ℕ) → List ℕ → ℕ → ℕ → List ℕ → List ℕ → Type 0
Parted word row n at bins bins' =
    (get_or bins' at 0 ≡ get_or bins at 0 + sum_to (lane_of (word_with word row 18446744073709551615)) n)
    × (get_or bins' (at + 1) 0 ≡ get_or bins (at + 1) 0 + sum_to (lane_of (word_with word row 0)) n)
