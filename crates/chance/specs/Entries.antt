-- The entries that bracket a chance, in units of 2 ^ -40, block by block.
use Rattle.std.specs.Prelude.{ℕ, zero, suc, ◌+◌, ◌-◌, ◌*◌, ◌/◌, ◌^◌, List, [], ◌∷◌, length, get_or}
use Rattle.counting.specs.Sample.{list_of}
use Rattle.chance.specs.Chance.{before}

-- entry j; a missing entry is 0
abbrev pub entry : List ℕ → ℕ → ℕ
entry row j = get_or row j 0

-- what a block makes of an entry x and the entry y before it
unfoldable pub next_entry : ℕ → ℕ → ℕ → ℕ → ℕ
next_entry k d x y = (x * (2 ^ k - d) + y * d) / 2 ^ k

-- the entries after one block more, one entry more: all are read before any is replaced
unfoldable pub next_row : ℕ → ℕ → List ℕ → List ℕ
next_row k d row = list_of (suc (length row)) (λ j. next_entry k d (entry row j) (before (entry row) j))

-- the entries 0 to n after n blocks: with no block yet, 2 ^ 40 at count 0
unfoldable pub entries_after : ℕ → ℕ → ℕ → List ℕ
entries_after zero k d = 2 ^ 40 ∷ []
entries_after (suc n) k d = next_row k d (entries_after n k d)
