-- Whole roots, and a step that closes in on them. Definitions only.
use Rattle.std.specs.Prelude.{◌≡◌, ℕ, ◌+◌, ◌*◌, ◌≤◌, ◌<◌}

-- the root of n is at least t and less than t + e; with an e of 1, t is its whole part
abbrev pub Within : ℕ → ℕ → ℕ → Type 0
Within n t e = (t * t ≤ n) × (n < (t + e) * (t + e))

-- n - t * t divided by 2 * t is q and the rest u; the root is so near t, by p, that q is its distance or one more
pub record Step (n t p q u : ℕ) : Type 0 where
  pub parts : t * t + (2 * t * q + u) ≡ n
  pub rest : u < 2 * t
  pub within : Within n t p
  pub near : p * p ≤ 2 * t
