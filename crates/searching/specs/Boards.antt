-- What a search of all blocks finds in the recording of four boards, told by the boards; and what a user of one board has.
use Rattle.std.specs.Prelude.{◌≡◌, Bool, List, ◌++◌, ℕ, ◌^◌, length, take}
use Rattle.counting.specs.Recording.{blocks_in}
use Rattle.sampling.specs.Boards.{Feed, accepted_of, on_board, refusals_from, carried}
use Rattle.sampling.specs.Earlier.{piece_refusals, earlier_recording}
use Rattle.sampling.specs.Kept.{bytes_on, summed_counts, SameBytes, SamePieces}
use Rattle.sampling.specs.Sampler.{blocks_of}
use Rattle.sampling.specs.declared.sampler.Sampler.{Sampler}
use Rattle.searching.specs.Claim.{Acquisition, SearchClaim, Same}
use Rattle.searching.specs.Search.{BottomupSearch}
use Rattle.searching.specs.Finding.{Searched}

-- Theorem: the counts that a search of all blocks leaves are, bin by bin, the sums over the four boards of the counts over each board's accepted bytes.
abbrev pub BoardsCounted : Type 0
BoardsCounted =
    (B : ℕ) (low : Bool) (ws : List ℕ) (old : List (List ℕ)) (feeds : List Feed) (answers : List ℕ) (s : Sampler) (ws' : List ℕ)
    → Acquisition B low ws old feeds answers s ws'
    → (k : ℕ) (store bins order : List ℕ) (r : Searched) (store' bins' order' : List ℕ)
    → BottomupSearch s.head ws' 0 (blocks_of s.head) k store bins order r store' bins' order' → r.refusal ≡ 0
    → take (2 ^ k) bins' ≡ summed_counts B low (λ board. bytes_on board (accepted_of B (length ws) old feeds)) (take k r.finding.bits)

-- Two acquisitions, of one block size and bit order, after which searches of all blocks at one width, that succeed, find the same and leave the same counts and
-- order, whatever stores and buffers they are lent.
abbrev pub SameFound : Sampler → List ℕ → Sampler → List ℕ → Type 0
SameFound s ws s₂ ws₂ =
    (k : ℕ) (store bins order : List ℕ) (r : Searched) (store' bins' order' : List ℕ)
    → BottomupSearch s.head ws 0 (blocks_of s.head) k store bins order r store' bins' order'
    → (store₂ bins₂ order₂ : List ℕ) (r₂ : Searched) (store₂' bins₂' order₂' : List ℕ)
    → BottomupSearch s₂.head ws₂ 0 (blocks_of s₂.head) k store₂ bins₂ order₂ r₂ store₂' bins₂' order₂'
    → r.refusal ≡ 0 → r₂.refusal ≡ 0 → Same k r bins' order' r₂ bins₂' order₂'

-- Theorem: so it is where the accepted bytes are, board by board, the same.
abbrev pub SameBytesFound : Type 0
SameBytesFound =
    (B : ℕ) (low : Bool)
    → (ws : List ℕ) (old : List (List ℕ)) (feeds : List Feed) (answers : List ℕ) (s : Sampler) (ws' : List ℕ) → Acquisition B low ws old feeds answers s ws'
    → (ws₂ : List ℕ) (old₂ : List (List ℕ)) (feeds₂ : List Feed) (answers₂ : List ℕ) (s₂ : Sampler) (ws₂' : List ℕ) → Acquisition B low ws₂ old₂ feeds₂ answers₂ s₂ ws₂'
    → SameBytes (accepted_of B (length ws) old feeds) (accepted_of B (length ws₂) old₂ feeds₂) → SameFound s ws' s₂ ws₂'

-- Theorem: .. and so where the accepted pieces are, board by board, the same in the same order.
abbrev pub SamePiecesFound : Type 0
SamePiecesFound =
    (B : ℕ) (low : Bool)
    → (ws : List ℕ) (old : List (List ℕ)) (feeds : List Feed) (answers : List ℕ) (s : Sampler) (ws' : List ℕ) → Acquisition B low ws old feeds answers s ws'
    → (ws₂ : List ℕ) (old₂ : List (List ℕ)) (feeds₂ : List Feed) (answers₂ : List ℕ) (s₂ : Sampler) (ws₂' : List ℕ) → Acquisition B low ws₂ old₂ feeds₂ answers₂ s₂ ws₂'
    → SamePieces (accepted_of B (length ws) old feeds) (accepted_of B (length ws₂) old₂ feeds₂) → SameFound s ws' s₂ ws₂'

-- What a user of one board has after an acquisition that left the sampler s and the words ws: the claim of the earlier rule, of a recording that holds `held`.
pub record SoleClaim (B : ℕ) (low : Bool) (held : List ℕ) (s : Sampler) (ws : List ℕ) : Type 0 where
  pub blocks : blocks_of s.head ≡ blocks_in B held
  pub search :
      (first end k : ℕ) (store bins order : List ℕ) (r : Searched) (store' bins' order' : List ℕ)
      → BottomupSearch s.head ws first end k store bins order r store' bins' order'
      → SearchClaim B low held first end k store bins order r store' bins' order'

-- Theorem: where every feed is board 0's, and the earlier rule refuses the same of them, all that it claimed of its recording holds. It refuses the same, for one,
-- where it refuses nothing (`AllSole`, `taken`).
abbrev pub SoleClaims : Type 0
SoleClaims =
    (B : ℕ) (low : Bool) (ws : List ℕ) (old pieces : List (List ℕ)) (answers : List ℕ) (s : Sampler) (ws' : List ℕ)
    → Acquisition B low ws old (on_board 0 pieces) answers s ws'
    → refusals_from B (length ws) (carried B (earlier_recording B (length ws) old)) (on_board 0 pieces) ≡ piece_refusals B (length ws) (earlier_recording B (length ws) old) pieces
    → SoleClaim B low (earlier_recording B (length ws) (old ++ pieces)) s ws'
