-- Ranking one subset by the counts of its bins, for any counts that a host may lend.
use Rattle.std.specs.Prelude.{◌≡◌, ℕ, zero, suc, ◌^◌, cond, List, [], ◌∷◌, ◌++◌, leb, length, take, drop}
use Rattle.std.specs.Float.{binary64}
use Rattle.std.specs.Float.Ieee.{to_bits}
use Rattle.counting.specs.Sample.{total}
use Rattle.ranking.specs.Order.{order_of}
use Rattle.ranking.specs.Ranking.{score_of}
use Rattle.ranking.specs.declared.ranking.Ranking.{Ranking}
use Rattle.subsets.specs.Bits.{valid_width}
use Rattle.searching.specs.Refusal.{or_else, buffer_refusal}
use Rattle.exports.specs.Records.{written, short_record}

-- the number, outside the rules', of counts that add up to 2 ^ 32 or more
abbrev pub too_many_counted : ℕ
too_many_counted = 26

-- 25: no room for the two numbers of the ranking; 2: k is 0 or above 20; 7: bins or order have fewer than 2 ^ k entries; 26: too many counted; 0: none
unfoldable pub ranking_refusal : ℕ → List ℕ → ℕ → ℕ → ℕ
ranking_refusal k bins order ranking =
    cond (leb 2 ranking)
    (cond (valid_width k)
    (or_else (buffer_refusal k (length bins) order) (cond (leb (total (take (2 ^ k) bins)) 4294967295) 0 too_many_counted))
    2)
    short_record

-- a ranking as numbers: the division, and the bits of z as a double
abbrev pub ranking_numbers : Ranking → List ℕ
ranking_numbers r = r.division ∷ to_bits binary64 r.z ∷ []

-- the order buffer after the refusal r: the bin order, and past it as lent; all as lent where refused
abbrev pub ranking_order : ℕ → ℕ → List ℕ → List ℕ → List ℕ
ranking_order zero k bins order = order_of (take (2 ^ k) bins) ++ drop (2 ^ k) order
ranking_order (suc r) k bins order = order

-- .. and the slice of the ranking: division and z by the rule; as lent where refused
abbrev pub ranking_written : ℕ → ℕ → List ℕ → List ℕ → List ℕ
ranking_written zero k bins ranking = written (ranking_numbers (score_of (total (take (2 ^ k) bins)) k (take (2 ^ k) bins))) ranking
ranking_written (suc r) k bins ranking = ranking

-- `from_bins`, for the number of blocks that the counts add up to
pub record RankingCall (k : ℕ) (bins order ranking : List ℕ) (r : ℕ) (order' ranking' : List ℕ) : Type 0 where
  pub answered : r ≡ ranking_refusal k bins (length order) (length ranking)
  pub ordered : order' ≡ ranking_order (ranking_refusal k bins (length order) (length ranking)) k bins order
  pub wrote : ranking' ≡ ranking_written (ranking_refusal k bins (length order) (length ranking)) k bins ranking
