-- What the cases are tested for before a helper of the counting crate is called.
use Rattle.std.specs.Prelude.{ℕ, ◌-◌, ◌/◌, ◌≤◌, ◌<◌, List, length, get_or}

-- each of the bits lies in a block of `size` bytes
abbrev pub InBlock : List ℕ → ℕ → Type 0
InBlock bits size = (i : ℕ) → i < length bits → get_or bits i 0 / 8 < size

-- there are 1 to 10 bits, and the last is below 2 ^ 32 - 1
abbrev pub Countable : List ℕ → Type 0
Countable bits = (1 ≤ length bits) × (length bits ≤ 10) × (get_or bits (length bits - 1) 0 < 4294967295)
