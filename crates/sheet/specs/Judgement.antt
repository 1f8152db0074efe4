-- A finding of the training bytes, judged on the testing bytes.
use Rattle.std.specs.Prelude.{◌≡◌, true, false, List, [], ◌∷◌, ℕ, ◌≤◌, length}
use Rattle.std.specs.Float.Ieee.{to_bits}
use Rattle.std.specs.Float.{binary64}
use Rattle.counting.specs.Block.{valid_size}
use Rattle.counting.specs.Recording.{capacity_bytes, blocks_in}
use Rattle.judging.specs.Evaluation.{positive_in, z_in}
use Rattle.judging.specs.Training.{chosen_of, trained_of, trained_order, Trainable}
use Rattle.sheet.specs.Lines.{three_lines}
use Rattle.sheet.specs.declared.judgement.Judged.{Judged}

-- the finding, and how many testing blocks are positive with what score
unfoldable pub judged_of : ℕ → ℕ → List ℕ → List ℕ → Judged
judged_of B k training testing =
    let f = trained_of B false k training in
    let order = trained_order B false k training in
    record { finding = f; positive = positive_in f order testing; z = z_in f order testing }

-- what can be judged: training bytes that can be searched in the words and buffers that the program has, and one testing block or more
pub record Judgeable (B k : ℕ) (training testing : List ℕ) : Type 0 where
  pub trainable : Trainable B k (length training) 576 256 256
  pub some : 1 ≤ blocks_in B testing
  pub few : length testing ≤ 8192

-- Theorem: the program's 576 words hold all training bytes.
abbrev pub TrainingFits : Type 0
TrainingFits = (B bytes : ℕ) → valid_size B ≡ true → B ≤ 64 → bytes ≤ 4096 → bytes ≤ capacity_bytes B 576

-- the sheet's numbers: B, k, training blocks, testing blocks, division, positive; the bits; the patterns of both z
unfoldable pub lines_of : ℕ → ℕ → List ℕ → List ℕ → List ℕ
lines_of B k training testing =
    let j = judged_of B k training testing in
    three_lines (B ∷ k ∷ blocks_in B training ∷ blocks_in B testing ∷ j.finding.division ∷ j.positive ∷ []) (chosen_of B false k training)
    (to_bits binary64 j.finding.z ∷ to_bits binary64 j.z ∷ [])
