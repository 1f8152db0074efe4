-- The search of the training bytes, and that its finding can be evaluated.
use Rattle.std.specs.Prelude.{◌≡◌, Bool, true, List, [], ◌∷◌, ℕ, ◌^◌, ◌≤◌, length, take}
use Rattle.counting.specs.Block.{valid_size}
use Rattle.counting.specs.Recording.{capacity_bytes, blocks_in, recorded_bit}
use Rattle.counting.specs.Sample.{counts_of}
use Rattle.sampling.specs.Boards.{on_board}
use Rattle.sampling.specs.Sampler.{blocks_of}
use Rattle.sampling.specs.declared.sampler.Sampler.{Sampler}
use Rattle.ranking.specs.Order.{order_of}
use Rattle.searching.specs.Claim.{Acquisition}
use Rattle.searching.specs.Finding.{Searched, winner_of, finding_of}
use Rattle.searching.specs.Search.{BottomupSearch}
use Rattle.searching.specs.declared.finding.Finding.{Finding}
use Rattle.judging.specs.Evaluation.{positive_in, z_in, evaluated_of}
use Rattle.judging.specs.declared.evaluation.Score.TheVariants.{Z}

-- the best k-subset of the recording in this bit order that holds the bytes
unfoldable pub chosen_of : ℕ → Bool → ℕ → List ℕ → List ℕ
chosen_of B low k bytes = winner_of (recorded_bit B low bytes) (blocks_in B bytes) B k

-- .. as a finding
unfoldable pub trained_of : ℕ → Bool → ℕ → List ℕ → Finding
trained_of B low k bytes = finding_of low (recorded_bit B low bytes) (blocks_in B bytes) B (chosen_of B low k bytes)

-- .. and its bin order
unfoldable pub trained_order : ℕ → Bool → ℕ → List ℕ → List ℕ
trained_order B low k bytes = order_of (counts_of (recorded_bit B low bytes) (blocks_in B bytes) (chosen_of B low k bytes))

-- so many bytes can be searched in so many words, with buffers of `bins` and `order` entries
pub record Trainable (B k bytes words bins order : ℕ) : Type 0 where
  pub valid : valid_size B ≡ true
  pub some : 1 ≤ k
  pub width : k ≤ 20
  pub chosen : k ≤ B
  pub held : bytes ≤ capacity_bytes B words
  pub room : (2 ^ k ≤ bins) × (2 ^ k ≤ order)

-- the finding, and the order buffer's first 2 ^ k entries
pub record Trained (B : ℕ) (low : Bool) (k : ℕ) (bytes : List ℕ) (f : Finding) (order : List ℕ) : Type 0 where
  pub found : f ≡ trained_of B low k bytes
  pub ordered : take (2 ^ k) order ≡ trained_order B low k bytes

-- Theorem: after a start in these words and a feed of the bytes to board 0, the search of all blocks is not refused, and what it finds is that, whatever the store.
abbrev pub TrainingFound : Type 0
TrainingFound =
    (B : ℕ) (low : Bool) (k : ℕ) (ws bytes answers : List ℕ) (sampler : Sampler) (ws' : List ℕ) → Acquisition B low ws [] (on_board 0 (bytes ∷ [])) answers sampler ws'
    → (store bins order : List ℕ) → Trainable B k (length bytes) (length ws) (length bins) (length order)
    → (r : Searched) (store' bins' order' : List ℕ) → BottomupSearch sampler.head ws' 0 (blocks_of sampler.head) k store bins order r store' bins' order'
    → (r.refusal ≡ 0) × Trained B low k bytes r.finding order'

-- Theorem: the evaluation of such a finding on any bytes with a block is not refused, and there is a sample.
abbrev pub FindingEvaluated : Type 0
FindingEvaluated =
    (B : ℕ) (low : Bool) (k : ℕ) (bytes testing : List ℕ) (scratch : ℕ) → valid_size B ≡ true → 1 ≤ k → k ≤ 20 → k ≤ B
    → 1 ≤ blocks_in B testing → blocks_in B testing ≤ 16777216 → 2 ^ k ≤ scratch
    → let f = trained_of B low k bytes in
    let order = trained_order B low k bytes in
    evaluated_of f order testing scratch ≡ record { refusal = 0; positive = positive_in f order testing; score = Z (z_in f order testing) }
