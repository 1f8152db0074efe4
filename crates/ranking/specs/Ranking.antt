-- Ranking one subset by its counts: the division of the bin order at which the score is greatest.
use Rattle.std.specs.Prelude.{◌≡◌, ℕ, ◌-◌, ◌^◌, ◌≤◌, ◌<◌, false, not, List, map, T, pos, length, get_or, take, Float}
use Rattle.std.specs.Float.{nan, fin}
use Rattle.std.specs.Float.Ieee.{lt}
use Rattle.counting.specs.Sample.{total}
use Rattle.scoring.specs.Halves.{part}
use Rattle.scoring.specs.Score.{deviation, z_score, abs}
use Rattle.ranking.specs.Order.{order_of}
use Rattle.ranking.specs.Peak.{Peak, peak}
use Rattle.ranking.specs.declared.ranking.Ranking.{Ranking}

-- the counts in bin order
unfoldable pub in_bin_order : List ℕ → List ℕ
in_bin_order counts = map (λ v. get_or counts v 0) (order_of counts)

-- |z| at division i, c being the sum of the first i counts in bin order
unfoldable pub size_at : ℕ → ℕ → List ℕ → ℕ → Float
size_at n k ordered i = abs (z_score n (total (take i ordered)) (part i k))

-- the z to start from: 0
abbrev pub zero_score : Float
zero_score = fin false 0 (pos 0)

-- a peak of scores as a ranking, and back: the place is the division
abbrev pub as_ranking : Peak Float → Ranking
as_ranking p = record { division = p.place; z = p.value }

abbrev pub as_peak : Ranking → Peak Float
as_peak r = record { place = r.division; value = r.z }

-- division and z: the first i from 1 to 2 ^ k - 1 with strictly greatest |z|, from division 1 and z 0
unfoldable pub score_of : ℕ → ℕ → List ℕ → Ranking
score_of n k counts = let ordered = in_bin_order counts in as_ranking (peak lt zero_score (size_at n k ordered) (2 ^ k - 1))

-- a table of deviations: entry i, from 1 on, is that at the share i / 2 ^ k; entry 0 is free
abbrev pub Roots : ℕ → ℕ → List Float → Type 0
Roots n k roots = (i : ℕ) → 1 ≤ i → i < length roots → get_or roots i nan ≡ deviation n (part i k)

-- What division and z are to be where n is not 0: z is |z| at the division, no division has a greater, and every earlier one has a lesser
pub record IsRanking (n k : ℕ) (counts : List ℕ) (r : Ranking) : Type 0 where
  pub low : 1 ≤ r.division
  pub high : r.division < 2 ^ k
  pub attained : r.z ≡ size_at n k (in_bin_order counts) r.division
  pub greatest : (i : ℕ) → 1 ≤ i → i < 2 ^ k → T (not (lt r.z (size_at n k (in_bin_order counts) i)))
  pub first : (i : ℕ) → 1 ≤ i → i < r.division → T (lt (size_at n k (in_bin_order counts) i) r.z)

-- Theorem: `score_of` is that for every n from 1 to 16,777,216 and every width.
abbrev pub RankingIsRight : Type 0
RankingIsRight = (n k : ℕ) (counts : List ℕ) → 1 ≤ n → n ≤ 16777216 → 1 ≤ k → k ≤ 20 → IsRanking n k counts (score_of n k counts)

-- Theorem: and no other division and z are.
abbrev pub RankingIsAlone : Type 0
RankingIsAlone =
    (n k : ℕ) (counts : List ℕ) → 1 ≤ n → n ≤ 16777216 → 1 ≤ k → k ≤ 20 → (r : Ranking) → IsRanking n k counts r → r ≡ score_of n k counts

-- Theorem: an empty sample has division 1 and z 0.
abbrev pub EmptyRanking : Type 0
EmptyRanking = (k : ℕ) (counts : List ℕ) → total counts ≡ 0 → score_of 0 k counts ≡ record { division = 1; z = zero_score }
