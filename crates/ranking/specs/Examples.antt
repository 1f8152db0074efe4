-- Worked examples, from the counts of a subset's bins.
use Rattle.std.specs.Prelude.{◌≡◌, false, List, [], ◌∷◌, ℕ, pos, Float}
use Rattle.std.specs.Float.{fin}
use Rattle.ranking.specs.Order.{order_of}
use Rattle.ranking.specs.Ranking.{zero_score, score_of}

-- the bin order, division and z of the counts of n blocks
pub record RankedAs (n k : ℕ) (counts order : List ℕ) (division : ℕ) (z : Float) : Type 0 where
  pub ordered : order_of counts ≡ order
  pub ranked : score_of n k counts ≡ record { division = division; z = z }

-- Theorem: the counts of the rules' first four examples; fin false 1 (pos 1) is 2.
pub record RankingExamples : Type 0 where
  pub always : RankedAs 4 1 (0 ∷ 4 ∷ []) (1 ∷ 0 ∷ []) 1 (fin false 1 (pos 1))
  pub ties : RankedAs 2 1 (1 ∷ 1 ∷ []) (0 ∷ 1 ∷ []) 1 zero_score
  pub empty : RankedAs 0 3 (0 ∷ 0 ∷ 0 ∷ 0 ∷ 0 ∷ 0 ∷ 0 ∷ 0 ∷ []) (0 ∷ 1 ∷ 2 ∷ 3 ∷ 4 ∷ 5 ∷ 6 ∷ 7 ∷ []) 1 zero_score
  pub together : RankedAs 4 2 (2 ∷ 0 ∷ 0 ∷ 2 ∷ []) (0 ∷ 3 ∷ 1 ∷ 2 ∷ []) 2 (fin false 1 (pos 1))
