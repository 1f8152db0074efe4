-- The exact chance of at least c positives among n blocks, each positive with probability d / 2^k: a binomial sum, over whole numbers.
use Rattle.std.specs.Prelude.{◌≡◌, ℕ, zero, suc, ◌+◌, ◌-◌, ◌*◌, ◌^◌, ◌<◌}
use Rattle.counting.specs.Sample.{sum_to}
use Rattle.subsets.specs.Choose.{choose}

-- f c + f (c + 1) + .. + f n
unfoldable pub sum_from : (ℕ → ℕ) → ℕ → ℕ → ℕ
sum_from f c n = sum_to (λ i. f (c + i)) (suc n - c)

-- f (j - 1); before the first it is 0
abbrev pub before : (ℕ → ℕ) → ℕ → ℕ
before f zero = 0
before f (suc j) = f j

-- 2 ^ (k × n) times the chance of exactly j positives: the blocks that are positive are chosen, each has d of the 2 ^ k bins, each other the rest
abbrev pub binomial_term : ℕ → ℕ → ℕ → ℕ → ℕ
binomial_term n k d j = choose n j * d ^ j * (2 ^ k - d) ^ (n - j)

-- 2 ^ (k × n) times the chance of at least c positives
unfoldable pub binomial_sum : ℕ → ℕ → ℕ → ℕ → ℕ
binomial_sum n c k d = sum_from (binomial_term n k d) c n

-- Theorem: of n + 1 blocks of which j are positive the last is not, and in one of 2 ^ k - d bins, or it is, and in one of d.
abbrev pub TermsByBlock : Type 0
TermsByBlock = (n k d j : ℕ) → binomial_term (suc n) k d j ≡ binomial_term n k d j * (2 ^ k - d) + before (binomial_term n k d) j * d

-- Theorem: the chances of all numbers of positives add up to 1.
abbrev pub ChancesAddUp : Type 0
ChancesAddUp = (n k d : ℕ) → d < 2 ^ k → binomial_sum n 0 k d ≡ 2 ^ (k * n)
