-- A search with the low bit first is, but for the mark, the search with the high bit first of bytes with their bits reversed.
use Rattle.std.specs.Prelude.{◌≡◌, true, false, List, ℕ, length}
use Rattle.counting.specs.Reversed.{reversed_bytes}
use Rattle.sampling.specs.Boards.{Feed}
use Rattle.sampling.specs.Reversed.{reversed_pieces, reversed_feeds, mirrored}
use Rattle.sampling.specs.declared.sampler.Sampler.{Sampler}
use Rattle.searching.specs.Claim.{Acquisition, BestIn}
use Rattle.searching.specs.Finding.{Searched, marked}
use Rattle.searching.specs.Search.{BottomupSearch}
use Rattle.searching.specs.declared.finding.Finding.{Finding}

-- Theorem: what is best in a recording with the low bit first is, but for the mark, best in the recording of its reversed bytes with the high bit first.
abbrev pub BestReversed : Type 0
BestReversed =
    (B : ℕ) (held : List ℕ) (first end k : ℕ) (f : Finding) (bins order : List ℕ)
    → BestIn B true held first end k f bins order → BestIn B false (reversed_bytes held) first end k (marked false f) bins order

-- the answer with its finding's mark at high first
abbrev pub unmarked : Searched → Searched
unmarked r = record { refusal = r.refusal; finding = marked false r.finding }

-- Two searches, given the same but for the sampler and the words, answer the same but for the mark, and leave the same counts and order.
pub record SameUnmarked (r : Searched) (bins order : List ℕ) (r' : Searched) (bins' order' : List ℕ) : Type 0 where
  pub answers : unmarked r ≡ r'
  pub counts : bins ≡ bins'
  pub orders : order ≡ order'

-- What holds of acquisitions of some pieces and feeds with the low bit first, which left s and ws, and of the reversed ones with the high bit first, which left
-- s' and ws': the feeds answered the same, the words are the same, s' is s mirrored, and each search answers the same, refused or not.
pub record LowAsHigh (answers : List ℕ) (s : Sampler) (ws : List ℕ) (answers' : List ℕ) (s' : Sampler) (ws' : List ℕ) : Type 0 where
  pub fed : answers' ≡ answers
  pub words : ws' ≡ ws
  pub sampler : s' ≡ mirrored s
  pub search :
      (first end k : ℕ) (store bins order : List ℕ) (r : Searched) (store₁ bins₁ order₁ : List ℕ)
      → BottomupSearch s.head ws first end k store bins order r store₁ bins₁ order₁
      → (r' : Searched) (store₁' bins₁' order₁' : List ℕ) → BottomupSearch s'.head ws' first end k store bins order r' store₁' bins₁' order₁'
      → SameUnmarked r bins₁ order₁ r' bins₁' order₁' × (store₁ ≡ store₁')

-- Theorem: that holds of all such acquisitions, in as many words.
abbrev pub LowIsHighReversed : Type 0
LowIsHighReversed =
    (B : ℕ) (old : List (List ℕ)) (feeds : List Feed) (ws : List ℕ) (answers : List ℕ) (s : Sampler) (ws₁ : List ℕ) → Acquisition B true ws old feeds answers s ws₁
    → (ws' : List ℕ) (answers' : List ℕ) (s' : Sampler) (ws₁' : List ℕ) → Acquisition B false ws' (reversed_pieces old) (reversed_feeds feeds) answers' s' ws₁'
    → length ws ≡ length ws' → LowAsHigh answers s ws₁ answers' s' ws₁'
