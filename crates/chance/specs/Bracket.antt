-- The two ends of a chance, that they enclose it, what the call refuses, its answer and the scratch after it.
use Rattle.std.specs.Prelude.{◌≡◌, ℕ, zero, suc, ◌+◌, ◌*◌, ◌/◌, ◌^◌, ◌≤◌, ◌<◌, cond, List, ◌++◌, leb, ltb, length, drop, Result, Ok, Err}
use Rattle.counting.specs.Refusal.{number_of}
use Rattle.counting.specs.declared.refusal.Refusal.{Refusal}
use Rattle.subsets.specs.Bits.{valid_width}
use Rattle.chance.specs.Chance.{sum_from, binomial_sum}
use Rattle.chance.specs.Entries.{entry, entries_after}
use Rattle.chance.specs.declared.bracket.Ends.{Ends}

-- the lower end, L: the sum of entries c to n
unfoldable pub low_of : ℕ → ℕ → ℕ → ℕ → ℕ
low_of n c k d = sum_from (entry (entries_after n k d)) c n

-- how many divisions n blocks round down, at most 1 lost in each: 2 entries at the first block, 3 at the second, .., n + 1 at the last
unfoldable pub roundings : ℕ → ℕ
roundings n = n * (n + 3) / 2

-- the upper end
unfoldable pub high_of : ℕ → ℕ → ℕ → ℕ → ℕ
high_of n c k d = low_of n c k d + roundings n

-- low ≤ 2 ^ 40 × chance ≤ high, where `binomial_sum` is 2 ^ (k × n) times the chance
abbrev pub Between : ℕ → ℕ → ℕ → ℕ → ℕ → ℕ → Type 0
Between low high n c k d = (low * 2 ^ (k * n) ≤ 2 ^ 40 * binomial_sum n c k d) × (2 ^ 40 * binomial_sum n c k d ≤ high * 2 ^ (k * n))

-- Theorem: the exact chance times 2 ^ 40 is at least the lower end and at most the upper one; the lower end is at most 2 ^ 40.
abbrev pub Brackets : Type 0
Brackets = (n c k d : ℕ) → d < 2 ^ k → c ≤ n → Between (low_of n c k d) (high_of n c k d) n c k d × (low_of n c k d ≤ 2 ^ 40)

-- 19: n is above 4,096 or c above n; 2: k is 0 or above 20; 14: d is 0, or 2 ^ k or more; 7: a scratch of `room` entries has fewer than n + 1
unfoldable pub bracket_refusal : ℕ → ℕ → ℕ → ℕ → ℕ → ℕ
bracket_refusal n c k d room =
    cond (leb n 4096)
    (cond (leb c n)
    (cond (valid_width k)
    (cond (leb 1 d)
    (cond (ltb d (2 ^ k))
    (cond (leb (suc n) room) 0 7)
    14)
    14)
    2)
    19)
    19

-- an answer of `bracket` as three numbers: both ends beside 0, or 0 and 0 beside a refusal
pub record Bracketed : Type 0 where
  pub refusal : ℕ
  pub low : ℕ
  pub high : ℕ

-- the three numbers of an answer
abbrev pub bracketed_of : Result Ends Refusal → Bracketed
bracketed_of (Ok ends) = record { refusal = 0; low = ends.low; high = ends.high }
bracketed_of (Err r) = record { refusal = number_of r; low = 0; high = 0 }

-- the answer beside the refusal r: both ends, or 0 and 0
unfoldable pub answer_of : ℕ → ℕ → ℕ → ℕ → ℕ → Bracketed
answer_of zero n c k d = record { refusal = 0; low = low_of n c k d; high = high_of n c k d }
answer_of (suc r) n c k d = record { refusal = suc r; low = 0; high = 0 }

-- the scratch beside the refusal r: the n + 1 last entries at its start and the rest as lent, or all as lent
unfoldable pub scratch_of : ℕ → ℕ → ℕ → ℕ → List ℕ → List ℕ
scratch_of zero n k d scratch = entries_after n k d ++ drop (suc n) scratch
scratch_of (suc r) n k d scratch = scratch

-- what `bracket` returns
unfoldable pub bracket_of : ℕ → ℕ → ℕ → ℕ → ℕ → Bracketed
bracket_of n c k d room = answer_of (bracket_refusal n c k d room) n c k d

-- the scratch that `bracket` leaves
unfoldable pub bracket_scratch : ℕ → ℕ → ℕ → ℕ → List ℕ → List ℕ
bracket_scratch n c k d scratch = scratch_of (bracket_refusal n c k d (length scratch)) n k d scratch

-- Theorem: where an answer of `bracket` has no refusal, the exact chance times 2 ^ 40 lies between its two ends, for the arguments of the call.
abbrev pub Encloses : Type 0
Encloses = (n c k d room : ℕ) (r : Bracketed) → r ≡ bracket_of n c k d room → r.refusal ≡ 0 → Between r.low r.high n c k d
