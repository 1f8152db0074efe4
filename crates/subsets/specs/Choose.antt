-- Binomials.
use Rattle.std.specs.Prelude.{ℕ, zero, suc, ◌+◌, ◌^◌, min}

-- n choose r, by Pascal's rule
abbrev pub choose : ℕ → ℕ → ℕ
choose n zero = 1
choose zero (suc r) = 0
choose (suc n) (suc r) = choose n r + choose n (suc r)

-- a number where that is at most 2^32; 2^32 + 1 stands for whatever is more
abbrev pub up_to : ℕ → ℕ
up_to x = min x (2 ^ 32 + 1)

-- n choose r, so far
unfoldable pub choose_up_to : ℕ → ℕ → ℕ
choose_up_to n r = up_to (choose n r)
