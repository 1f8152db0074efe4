-- What the step from a subset to the next leaves.
use Rattle.std.specs.Prelude.{◌≡◌, ℕ, Bool, true, false, List, take, drop}
use Rattle.subsets.specs.Subsets.{Next, Last}

-- The first k entries of `bits` are a k-subset. Where `found`, those of `bits'` are the next; else it is the last, and nothing has changed.
-- The entries from k on stay.
pub record Stepped (B k : ℕ) (bits : List ℕ) (found : Bool) (bits' : List ℕ) : Type 0 where
  pub next : found ≡ true → Next B k (take k bits) (take k bits')
  pub last : found ≡ false → Last B k (take k bits)
  pub same : found ≡ false → bits' ≡ bits
  pub rest : drop k bits' ≡ drop k bits
