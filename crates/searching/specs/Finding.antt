-- The search of a sample: every k-subset is ranked by its counts, and the first with the greatest z is found.
use Rattle.std.specs.Prelude.{◌≡◌, ℕ, ◌≤◌, Bool, false, List, Float, Result, Ok, Err, length, replicate}
use Rattle.std.specs.Float.Ieee.{lt}
use Rattle.counting.specs.Refusal.{number_of}
use Rattle.counting.specs.Sample.{counts_of}
use Rattle.counting.specs.declared.refusal.Refusal.{Refusal}
use Rattle.ranking.specs.Ranking.{zero_score, score_of}
use Rattle.ranking.specs.declared.ranking.Ranking.{Ranking}
use Rattle.scoring.specs.Score.{Number}
use Rattle.subsets.specs.Subsets.{numbers_from, padded}
use Rattle.subsets.specs.Best.{Order, Optimal, best_subset}
use Rattle.searching.specs.declared.finding.Finding.{Finding}

-- a subset's division and z, from its counts
abbrev pub ranking_of : (ℕ → ℕ → ℕ) → ℕ → List ℕ → Ranking
ranking_of bit n bits = score_of n (length bits) (counts_of bit n bits)

-- its score
abbrev pub z_of : (ℕ → ℕ → ℕ) → ℕ → List ℕ → Float
z_of bit n bits = (ranking_of bit n bits).z

-- the best k-subset of the block: greater z, else lexicographically smaller bits
unfoldable pub winner_of : (ℕ → ℕ → ℕ) → ℕ → ℕ → ℕ → List ℕ
winner_of bit n B k = best_subset lt (z_of bit n) B k

-- Theorem: scores are compared by an order, on all doubles that are no NaN.
abbrev pub ScoresOrdered : Type 0
ScoresOrdered = Order lt Number

-- Theorem: the winner beats every other k-subset.
abbrev pub WinnerOptimal : Type 0
WinnerOptimal = (bit : ℕ → ℕ → ℕ) (n B k : ℕ) → k ≤ B → Optimal lt (z_of bit n) B k (winner_of bit n B k)

-- Theorem: and nothing else does.
abbrev pub WinnerAlone : Type 0
WinnerAlone = (bit : ℕ → ℕ → ℕ) (n B k : ℕ) (r : List ℕ) → Optimal lt (z_of bit n) B k r → r ≡ winner_of bit n B k

-- Theorem: in an empty sample every subset has division 1 and z 0, so the first k bits win.
pub record EmptySample (bit : ℕ → ℕ → ℕ) : Type 0 where
  pub ranked : (bits : List ℕ) → ranking_of bit 0 bits ≡ record { division = 1; z = zero_score }
  pub wins : (B k : ℕ) → k ≤ B → winner_of bit 0 B k ≡ numbers_from 0 k

abbrev pub EmptySamples : Type 0
EmptySamples = (bit : ℕ → ℕ → ℕ) → EmptySample bit

-- a subset as a finding, in a bit order
abbrev pub finding_of : Bool → (ℕ → ℕ → ℕ) → ℕ → ℕ → List ℕ → Finding
finding_of low bit n B bits =
    record {
      block_size = B;
      width = length bits;
      bits = padded bits;
      division = (ranking_of bit n bits).division;
      z = (ranking_of bit n bits).z;
      low_first = low;
    }

-- the finding in this bit order
abbrev pub marked : Bool → Finding → Finding
marked low f =
    record { block_size = f.block_size; width = f.width; bits = f.bits; division = f.division; z = f.z; low_first = low }

-- beside a refusal every field is 0, which is the high bit first
abbrev pub no_finding : Finding
no_finding = record { block_size = 0; width = 0; bits = replicate 20 0; division = 0; z = zero_score; low_first = false }

-- what a search answers: a refusal, 0 where there is none, and the finding
pub record Searched : Type 0 where
  pub refusal : ℕ
  pub finding : Finding

abbrev pub refused_with : ℕ → Searched
refused_with r = record { refusal = r; finding = no_finding }

-- .. as code answers it
abbrev pub searched_of : Result Finding Refusal → Searched
searched_of (Ok f) = record { refusal = 0; finding = f }
searched_of (Err r) = refused_with (number_of r)
