-- The zeros at the two ends of a row.
use Rattle.std.specs.Prelude.{◌≡◌, ℕ, ◌^◌, ◌≤◌, ◌<◌, List}
use Rattle.chance.specs.Entries.{entry}

-- the first m entries of a scratch: none is above 2 ^ 40, and those below `from` and from `to` on are 0
pub record Row (m from to : ℕ) (s : List ℕ) : Type 0 where
  pub ordered : from ≤ to
  pub within : to ≤ m
  pub small : (j : ℕ) → j < m → entry s j ≤ 2 ^ 40
  pub below : (j : ℕ) → j < from → entry s j ≡ 0
  pub beyond : (j : ℕ) → to ≤ j → j < m → entry s j ≡ 0
