-- Where the subsets of a subset stand in the store, and their entries.
use Rattle.std.specs.Prelude.{◌≡◌, ◌⊎◌, ℕ, suc, ◌+◌, ◌-◌, ◌*◌, ◌≤◌, ◌<◌, List, length, get_or}
use Rattle.counting.specs.Sample.{all_set}
use Rattle.subsets.specs.Choose.{choose}
use Rattle.layers.specs.Store.{size_to, widest}
use Rattle.layers.specs.Settle.{chosen}

-- Row 0 of a run's numbers, worked out once for a search: entry d is the place of the last subset of d bits.
pub record Tops (B k : ℕ) (run : List ℕ) : Type 0 where
  pub room : 441 + B ≤ length run
  pub top : (d : ℕ) → 1 ≤ d → d ≤ widest k → get_or run d 0 + 1 ≡ size_to B d

-- Row i + 1, for each of the bits: entry r is the number of ways to choose r bits above bit i of them.
pub record Tables (B k : ℕ) (bits run : List ℕ) : Type 0 where
  pub tops : Tops B k run
  pub ways : (i r : ℕ) → 1 ≤ r → r ≤ widest k → i + r ≤ length bits → get_or run (suc i * 21 + r) 0 ≡ choose (B - 1 - get_or bits i 0) r

-- each entry from `from` to before `to` is the count of the bits that its number chooses
abbrev pub Gathered : (ℕ → ℕ → ℕ) → ℕ → List ℕ → ℕ → ℕ → List ℕ → Type 0
Gathered bit n bits from to bins = (w : ℕ) → from ≤ w → w < to → get_or bins w 0 ≡ all_set bit n (chosen bits w)

-- all other entries are as before
abbrev pub Spared : ℕ → ℕ → List ℕ → List ℕ → Type 0
Spared from to before after = (w : ℕ) → (w < from) ⊎ (to ≤ w) → get_or after w 0 ≡ get_or before w 0
