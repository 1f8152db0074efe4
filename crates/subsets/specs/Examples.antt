-- Worked examples.
use Rattle.std.specs.Prelude.{◌≡◌, [], ◌∷◌}
use Rattle.subsets.specs.Rank.{rank_of}

-- Theorem: ranks in a block of 8.
abbrev pub RanksOfEight : Type 0
RanksOfEight = (rank_of 8 (0 ∷ 2 ∷ []) ≡ 1) × (rank_of 8 (1 ∷ 2 ∷ []) ≡ 7) × (rank_of 8 (6 ∷ 7 ∷ []) ≡ 27)
