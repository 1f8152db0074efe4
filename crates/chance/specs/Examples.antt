-- Worked examples.
use Rattle.std.specs.Prelude.{◌≡◌, ◌^◌, [], ◌∷◌}
use Rattle.chance.specs.Chance.{binomial_sum}
use Rattle.chance.specs.Entries.{entries_after}
use Rattle.chance.specs.Bracket.{bracket_refusal, bracket_of}

-- two blocks at one half; three blocks at 3 / 8, of which at least two, which is exact (162 / 512); four at about two thirds, rounded; no block; the order
-- of the refusals and their edges
abbrev pub BracketExamples : Type 0
BracketExamples =
    (entries_after 2 1 1 ≡ 2 ^ 38 ∷ 2 ^ 39 ∷ 2 ^ 38 ∷ [])
    × (binomial_sum 3 2 3 3 ≡ 162)
    × (bracket_of 3 2 3 3 4 ≡ record { refusal = 0; low = 347892350976; high = 347892350985 })
    × (bracket_of 4 2 20 699051 5 ≡ record { refusal = 0; low = 977343979819; high = 977343979833 })
    × (bracket_of 0 0 1 1 1 ≡ record { refusal = 0; low = 2 ^ 40; high = 2 ^ 40 })
    × (bracket_refusal 4097 0 0 0 0 ≡ 19)
    × (bracket_refusal 5 6 0 0 0 ≡ 19)
    × (bracket_refusal 4096 4096 0 0 0 ≡ 2)
    × (bracket_refusal 5 5 21 0 0 ≡ 2)
    × (bracket_refusal 5 5 3 0 0 ≡ 14)
    × (bracket_refusal 5 5 3 8 0 ≡ 14)
    × (bracket_refusal 5 5 3 7 5 ≡ 7)
    × (bracket_refusal 5 5 3 7 6 ≡ 0)
