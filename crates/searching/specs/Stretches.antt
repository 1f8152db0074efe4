-- What the search of a stretch is: from 0 to n, the search of all blocks; else that of a recording which holds its blocks alone.
use Rattle.std.specs.Prelude.{ℕ, ◌≤◌, ◌≡◌, Bool, true, List, length}
use Rattle.counting.specs.Block.{valid_size}
use Rattle.counting.specs.Recording.{stride, blocks_in}
use Rattle.counting.specs.Stretch.{stretch_bytes}
use Rattle.counting.specs.Words.{stored_bit}
use Rattle.sampling.specs.Boards.{Feed, recording}
use Rattle.sampling.specs.Sampler.{blocks_of, sampler_refusal}
use Rattle.sampling.specs.declared.sampler.Head.{Head}
use Rattle.sampling.specs.declared.sampler.Sampler.{Sampler}
use Rattle.searching.specs.Refusal.{or_else, width_refusal, buffer_refusal, bottomup_refusal}
use Rattle.searching.specs.Search.{Search, StretchSearch}
use Rattle.searching.specs.Claim.{Acquisition, BestIn, BestOf}
use Rattle.searching.specs.declared.finding.Finding.{Finding}
use Rattle.searching.specs.Finding.{Searched}

-- the sample of all blocks that the words hold
abbrev pub sample_of : Head → List ℕ → ℕ → ℕ → ℕ
sample_of s ws = stored_bit (stride s.block_size (length ws)) ws

-- Theorem: for every sampler, a search from 0 to n refuses 4, 2, 3, 7, and never 18; and with any refusal it promises the search of all n blocks.
pub record WholeStretch (s : Head) (words : ℕ) : Type 0 where
  pub refusal :
      (k bins order : ℕ)
      → bottomup_refusal s words 0 (blocks_of s) k bins order
      ≡ or_else (sampler_refusal s words) (or_else (width_refusal s.block_size k) (buffer_refusal k bins order))
  pub search :
      (ws : List ℕ) (r k : ℕ) (bins order : List ℕ) (answer : Searched) (bins' order' : List ℕ)
      → StretchSearch r s ws 0 (blocks_of s) k bins order answer bins' order'
      → Search r s.low_first (sample_of s ws) (blocks_of s) s.block_size k bins order answer bins' order'

abbrev pub WholeStretches : Type 0
WholeStretches = (s : Head) (words : ℕ) → WholeStretch s words

-- Theorem: after every acquisition the sampler's n is the recording's, and what is best in the stretch from 0 to n is best in the whole recording.
pub record WholeRecording (B : ℕ) (low : Bool) (held : List ℕ) (s : Head) : Type 0 where
  pub blocks : blocks_of s ≡ blocks_in B held
  pub best :
      (k : ℕ) (f : Finding) (bins order : List ℕ)
      → BestIn B low held 0 (blocks_of s) k f bins order → BestOf B low held k f bins order

abbrev pub WholeRecordings : Type 0
WholeRecordings =
    (B : ℕ) (low : Bool) (ws : List ℕ) (old : List (List ℕ)) (feeds : List Feed) (answers : List ℕ) (s : Sampler) (ws' : List ℕ)
    → Acquisition B low ws old feeds answers s ws' → WholeRecording B low (recording B (length ws) old feeds) s.head

-- Theorem: what is best in a stretch of a recording is best in a recording that holds its blocks alone.
abbrev pub BestAlone : Type 0
BestAlone =
    (B : ℕ) (low : Bool) (held : List ℕ) (first end k : ℕ) (f : Finding) (bins order : List ℕ) → valid_size B ≡ true → first ≤ end → end ≤ blocks_in B held
    → BestIn B low held first end k f bins order → BestOf B low (stretch_bytes B held first end) k f bins order
