-- A finding evaluated on the very blocks that it was found in.
use Rattle.std.specs.Prelude.{◌≡◌, Bool, true, List, ℕ, ◌^◌, ◌≤◌, length, take}
use Rattle.counting.specs.Block.{valid_size}
use Rattle.counting.specs.Recording.{blocks_in}
use Rattle.counting.specs.Sample.{total}
use Rattle.counting.specs.Stretch.{stretch_bytes}
use Rattle.sampling.specs.Boards.{Feed, recording}
use Rattle.sampling.specs.declared.sampler.Sampler.{Sampler}
use Rattle.ranking.specs.Ranking.{in_bin_order}
use Rattle.scoring.specs.Score.{abs}
use Rattle.searching.specs.Claim.{Acquisition, BestOf}
use Rattle.searching.specs.Finding.{Searched}
use Rattle.searching.specs.Search.{BottomupSearch}
use Rattle.searching.specs.declared.finding.Finding.{Finding}
use Rattle.judging.specs.Evaluation.{counts_in, positive_in, z_in, evaluation_refusal}

-- What an evaluation of f makes of the recording that holds `held`, where the search left f, its counts and its order in the buffers.
pub record Agrees (B : ℕ) (held : List ℕ) (k : ℕ) (f : Finding) (bins order : List ℕ) (scratch : ℕ) : Type 0 where
  -- nothing is refused
  pub taken : evaluation_refusal f (take (2 ^ k) order) held scratch ≡ 0
  -- the counts are those that the search left
  pub counts : counts_in f held ≡ take (2 ^ k) bins
  -- positive is the sum of the first division of them in bin order
  pub positive : positive_in f (take (2 ^ k) order) held ≡ total (take f.division (in_bin_order (take (2 ^ k) bins)))
  -- |z| is the finding's score, where there is a block
  pub score : 1 ≤ blocks_in B held → abs (z_in f (take (2 ^ k) order) held) ≡ f.z

-- Theorem: that holds of every best finding of a recording.
abbrev pub FindingsAgree : Type 0
FindingsAgree =
    (B : ℕ) (low : Bool) (held : List ℕ) (k : ℕ) (f : Finding) (bins order : List ℕ) (scratch : ℕ)
    → valid_size B ≡ true → 1 ≤ k → k ≤ 20 → blocks_in B held ≤ 16777216 → 2 ^ k ≤ scratch
    → BestOf B low held k f bins order → Agrees B held k f bins order scratch

-- Theorem: it holds of what a search leaves after an acquisition, where the search is not refused, and of the bytes of its
-- stretch of the recording.
abbrev pub AllAgree : Type 0
AllAgree =
    (B : ℕ) (low : Bool) (ws : List ℕ) (old : List (List ℕ)) (feeds : List Feed) (answers : List ℕ) (s : Sampler) (ws' : List ℕ) → Acquisition B low ws old feeds answers s ws'
    → (first end k : ℕ) (store bins order : List ℕ) (r : Searched) (store' bins' order' : List ℕ)
    → BottomupSearch s.head ws' first end k store bins order r store' bins' order' → r.refusal ≡ 0
    → (scratch : ℕ) → 2 ^ k ≤ scratch → Agrees B (stretch_bytes B (recording B (length ws) old feeds) first end) k r.finding bins' order' scratch
