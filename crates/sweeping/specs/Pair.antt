-- One pair of the plan: the finding of the training half, and what it does on the testing half.
use Rattle.std.specs.Prelude.{◌≡◌, Bool, true, List, ℕ, suc, ◌-◌, ◌*◌, ◌/◌, ◌^◌, ◌≤◌, min, length, get_or, take}
use Rattle.counting.specs.Block.{valid_size}
use Rattle.counting.specs.Recording.{block_bytes, blocks_in, capacity_bytes}
use Rattle.chance.specs.Bracket.{low_of, high_of, bracket_refusal}
use Rattle.searching.specs.declared.finding.Finding.{Finding}
use Rattle.judging.specs.Evaluation.{positive_in, evaluation_refusal}
use Rattle.judging.specs.Split.{first_blocks, first_part, second_part}
use Rattle.judging.specs.Training.{trained_of, trained_order}
use Rattle.judging.specs.Plan.{Plan}
use Rattle.sweeping.specs.declared.pair.Pair.{Pair}
use Rattle.sweeping.specs.declared.pair.Tested.{Tested}

-- pair i of a plan, in a bit order
abbrev pub pair_at : Plan → Bool → ℕ → Pair
pair_at plan low i = record { block_size = get_or plan.blocks i 0; width = get_or plan.widths i 0; low_first = low }

-- a block size and a width within their limits
pub record Sizes (B k : ℕ) : Type 0 where
  pub valid : valid_size B ≡ true
  pub some : 1 ≤ k
  pub width : k ≤ 20
  pub fits : k ≤ B

-- a plan whose pairs are such, at most seven, and of which the first has blocks of one byte
pub record Sound (plan : Plan) : Type 0 where
  pub few : plan.pairs ≤ 7
  pub sizes : (i : ℕ) → suc i ≤ plan.pairs → Sizes (get_or plan.blocks i 0) (get_or plan.widths i 0)
  pub first : plan.refusal ≡ 0 → (1 ≤ plan.pairs) × (get_or plan.blocks 0 0 ≡ 8)

-- how many testing blocks of m blocks are evaluated: at most the first 4,096
unfoldable pub tested_blocks : ℕ → ℕ
tested_blocks m = min (m - first_blocks m true) 4096

-- their bytes
unfoldable pub tested_part : List ℕ → ℕ → List ℕ
tested_part raw B = take (4096 * block_bytes B) (second_part raw B true)

-- a finding on testing bytes: the blocks, the positive ones, and both ends of the chance of so many or more at division / 2 ^ width
unfoldable pub judged_of : Finding → List ℕ → List ℕ → Tested
judged_of f order testing =
    let n = blocks_in f.block_size testing in
    let c = positive_in f order testing in
    record { finding = f; blocks = n; positive = c; low = low_of n c f.width f.division; high = high_of n c f.width f.division }

-- what the test of a pair gives: the best of the training half, judged on the testing half
unfoldable pub tested_of : Pair → List ℕ → Tested
tested_of p raw =
    let training = first_part raw p.block_size true in
    judged_of (trained_of p.block_size p.low_first p.width training) (trained_order p.block_size p.low_first p.width training)
    (tested_part raw p.block_size)

-- what can be judged: neither the evaluation nor the bracket is refused
pub record Judgeable (f : Finding) (order testing : List ℕ) (scratch entries : ℕ) : Type 0 where
  pub taken : evaluation_refusal f order testing scratch ≡ 0
  pub bracketed : bracket_refusal (blocks_in f.block_size testing) (positive_in f order testing) f.width f.division entries ≡ 0

-- Theorem: what an evaluation of at most 4,096 blocks answers can be bracketed, in a scratch of one entry more than blocks: it is never refused.
abbrev pub EvaluatedBracketed : Type 0
EvaluatedBracketed =
    (f : Finding) (order testing : List ℕ) (scratch entries : ℕ) → length f.bits ≡ 20 → evaluation_refusal f order testing scratch ≡ 0
    → blocks_in f.block_size testing ≤ 4096 → suc (blocks_in f.block_size testing) ≤ entries → Judgeable f order testing scratch entries

-- what can be tested, in so many bytes and with buffers of so many entries: two blocks, words for the training half, and room
pub record Testable (p : Pair) (bytes words bins order scratch entries : ℕ) : Type 0 where
  pub sizes : Sizes p.block_size p.width
  pub two : 2 ≤ bytes / block_bytes p.block_size
  pub held : first_blocks (bytes / block_bytes p.block_size) true * block_bytes p.block_size ≤ capacity_bytes p.block_size words
  pub room : (2 ^ p.width ≤ bins) × (2 ^ p.width ≤ order) × (2 ^ p.width ≤ scratch)
  pub bracketing : suc (tested_blocks (bytes / block_bytes p.block_size)) ≤ entries
